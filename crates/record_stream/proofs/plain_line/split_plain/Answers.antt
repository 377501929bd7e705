use Rattle.std.proofs.Common.{IfSome, false, subst}
use Rattle.serde_json.specs.View.{items_view, view}
use Rattle.record_stream.specs.PlainLine.{AreParts}
use Rattle.record_stream.proofs.PlainParts.{plain_read}
use Rattle.record_stream.proofs.plain_line.split_plain.Goals as goal

pub returns : goal.returns
returns c =
    let are = subst (λ found. IfSome found (λ parts. AreParts false (items_view parts.items) c.in-Some.rest.now)) c.in-Some-2.is c.in_ok-parts.ensures in
    plain_read c.args.line.now c.in-Some.word.now c.in-Some.rest.now (items_view c.in-Some-2.parts.items) (view c.array_with.result) c.in-Some.ensures are c.array_with.ensures
