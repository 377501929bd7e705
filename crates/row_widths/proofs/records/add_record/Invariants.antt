use Rattle.row_widths.proofs.RecordSpreads.{AddedSoFar}
use Rattle.row_widths.proofs.records.add_record.Given as goal

abbrev pub invariant-loop-index : goal.invariant-loop-index
invariant-loop-index l = AddedSoFar l.values l.initial.spreads l.spreads l.index
