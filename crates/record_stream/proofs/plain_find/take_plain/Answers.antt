use Rattle.std.proofs.Common.{refl}
use Rattle.record_stream.proofs.PlainLines.{text_taken}
use Rattle.record_stream.proofs.plain_find.take_plain.Goals as goal

pub returns-then-is_plain : goal.returns-then-is_plain
returns-then-is_plain c =
    text_taken c.args.line.now c.as_bytes.result.now c.split_once.result c.in_ok-text.text c.in_ok-text.rest c.split_once.ensures.cases c.in_ok-text.was c.as_bytes.ensures.value (c.if-is_plain.ensures refl)
