use Rattle.std.proofs.Common.{All, take}
use Rattle.json_rows.specs.PlainText.{IsPlainUnit}
use Rattle.json_rows.proofs.plain.is_plain.Given as goal

abbrev pub invariant-loop-unit : goal.invariant-loop-unit
invariant-loop-unit l = All IsPlainUnit (take l.unit-index l.units)
