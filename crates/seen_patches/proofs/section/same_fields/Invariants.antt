use Rattle.std.proofs.Common.{◌≡◌, take}
use Rattle.seen_patches.proofs.section.same_fields.Given as goal

-- the first fields are the same
abbrev pub invariant-loop-place : goal.invariant-loop-place
invariant-loop-place l = take l.place l.mine ≡ take l.place l.theirs
