use Rattle.std.proofs.Common.{◌≡◌, max, drop}
use Rattle.list_codec.specs.Widths.{greatest}
use Rattle.row_widths.proofs.lists.greatest.Given as goal

abbrev pub invariant-loop-number : goal.invariant-loop-number
invariant-loop-number l = max l.greatest (greatest (drop l.number-index l.numbers)) ≡ greatest l.numbers
