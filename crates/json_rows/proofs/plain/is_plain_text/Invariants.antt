use Rattle.std.proofs.Common.{All, take}
use Rattle.object_codec.specs.Bytes.{bytes_of}
use Rattle.json_rows.specs.PlainText.{IsPlainUnit}
use Rattle.json_rows.proofs.plain.is_plain_text.Given as goal

abbrev pub invariant-loop-at : goal.invariant-loop-at
invariant-loop-at l = All IsPlainUnit (take l.at (bytes_of l.bytes))
