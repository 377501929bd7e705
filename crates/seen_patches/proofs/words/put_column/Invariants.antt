use Rattle.seen_patches.proofs.PutColumn.{PutSoFar}
use Rattle.seen_patches.proofs.words.put_column.Given as goal

-- the first records have their elements, and nothing else changed
abbrev pub invariant-loop-place : goal.invariant-loop-place
invariant-loop-place l = PutSoFar l.from l.source l.initial.to l.to l.target l.place
