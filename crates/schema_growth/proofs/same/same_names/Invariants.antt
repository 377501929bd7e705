use Rattle.std.proofs.Common.{◌≡◌, take}
use Rattle.schema_growth.proofs.same.same_names.Given as goal

-- the first ones are the same
abbrev pub invariant-loop-place : goal.invariant-loop-place
invariant-loop-place l = take l.place l.names ≡ take l.place l.others
