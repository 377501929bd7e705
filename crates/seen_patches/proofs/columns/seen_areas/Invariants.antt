use Rattle.seen_patches.proofs.Areas.{IsMovedSoFar}
use Rattle.seen_patches.proofs.columns.seen_areas.Given as goal

-- the bytes of the first fields are moved
abbrev pub invariant-loop-field : goal.invariant-loop-field
invariant-loop-field l = IsMovedSoFar l.mine l.theirs l.fn.areas l.areas.items l.seen l.field-index
