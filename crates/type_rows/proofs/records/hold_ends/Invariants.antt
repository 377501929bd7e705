use Rattle.type_rows.specs.FieldEnds.{EndsFit}
use Rattle.type_rows.proofs.records.hold_ends.Given as goal

abbrev pub invariant-loop-index : goal.invariant-loop-index
invariant-loop-index l = EndsFit l.fields l.widths l.ends l.index
