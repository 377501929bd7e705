use Rattle.std.proofs.Common.{◌≡◌, take}
use Rattle.row_hash.proofs.same.same_values.Given as goal

-- the first ones are the same
abbrev pub invariant-loop-place : goal.invariant-loop-place
invariant-loop-place l = take l.place l.values ≡ take l.place l.others
