use Rattle.std.proofs.Common.{◌≡◌, ◌++◌, drop, map, take}
use Rattle.hol_paths.specs.Met.{of_owner}
use Rattle.hol_paths.proofs.reserved.push_run.Given as goal

abbrev pub invariant-loop-place : goal.invariant-loop-place
invariant-loop-place l = l.coming.items ≡ l.initial.coming.items ++ map (of_owner l.owner) (take l.place (drop l.fn.run.start l.initial.coming.items))
