use Rattle.record_copies.proofs.RecordPuts.{PutSoFar}
use Rattle.record_copies.proofs.put.put_values.Given as goal

abbrev pub invariant-loop-index : goal.invariant-loop-index
invariant-loop-index l = PutSoFar l.widths l.initial.first l.start l.values l.first l.index l.at
