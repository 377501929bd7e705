use Rattle.std.proofs.Common.{◌≡◌, length, take}
use Rattle.std.specs.Prelude.{sum}
use Rattle.type_rows.specs.FieldEnds.{AreLengths}
use Rattle.type_rows.proofs.records.column_lengths.Given as goal

abbrev pub invariant-loop-index : goal.invariant-loop-index
invariant-loop-index l = record {
  before : l.before ≡ sum (take l.index l.section.widths);
  long : length l.lengths ≡ l.index;
  lengths : AreLengths l.shape l.section l.lengths l.index;
}
