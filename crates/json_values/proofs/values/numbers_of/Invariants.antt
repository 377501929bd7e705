-- The units are those of the numbers that were passed.
use Rattle.json_values.specs.ReadValue.{read_unit}
use Rattle.json_values.proofs.ReadingEach.{WasRead}
use Rattle.json_values.proofs.values.numbers_of.Given as goal

abbrev pub invariant-loop-number : goal.invariant-loop-number
invariant-loop-number l = WasRead read_unit l.numbers l.number-index l.units
