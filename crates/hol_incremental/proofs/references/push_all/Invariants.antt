use Rattle.std.proofs.Common.{◌≡◌, ◌++◌, map, take}
use Rattle.hol_incremental.specs.Counts.{indexed}
use Rattle.hol_incremental.proofs.references.push_all.Given as goal

abbrev pub invariant-loop-ordinal : goal.invariant-loop-ordinal
invariant-loop-ordinal l = l.named.items ≡ l.initial.named.items ++ indexed l.model (map (λ ordinal. (l.name, ordinal)) (take l.ordinal-index l.ordinals))
