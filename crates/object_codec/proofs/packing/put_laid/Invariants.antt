use Rattle.object_codec.proofs.RowPuts.{PutSoFar}
use Rattle.object_codec.proofs.packing.put_laid.Given as goal

abbrev pub invariant-loop-index : goal.invariant-loop-index
invariant-loop-index l = PutSoFar l.fields l.widths l.initial.first l.initial.areas l.values l.first l.areas l.place l.index l.at
