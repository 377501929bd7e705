use Rattle.seen_patches.proofs.PutColumns.{PutSoFar}
use Rattle.seen_patches.proofs.words.put_columns.Given as goal

-- the columns of the first fields are written
abbrev pub invariant-loop-index : goal.invariant-loop-index
invariant-loop-index l = PutSoFar l.mine l.theirs l.columns l.from l.widths l.initial.to l.to l.places l.size l.before l.index
