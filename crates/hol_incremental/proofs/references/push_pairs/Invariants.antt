use Rattle.std.proofs.Common.{◌≡◌, ◌++◌, ◌∷◌, [], flat_map, take}
use Rattle.hol_incremental.specs.Counts.{indexed}
use Rattle.hol_incremental.proofs.references.push_pairs.Given as goal

abbrev pub invariant-loop-pair : goal.invariant-loop-pair
invariant-loop-pair l = l.named.items ≡ l.initial.named.items ++ indexed l.model (flat_map (λ pair. (l.key, pair.0) ∷ (l.value, pair.1) ∷ []) (take l.pair-index l.pairs))
