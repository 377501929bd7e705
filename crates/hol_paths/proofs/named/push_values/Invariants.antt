use Rattle.std.proofs.Common.{◌≡◌, ◌++◌, map, take}
use Rattle.hol_paths.proofs.named.push_values.Given as goal

abbrev pub invariant-loop-pair : goal.invariant-loop-pair
invariant-loop-pair l = l.named.items ≡ l.initial.named.items ++ map (λ pair. pair.1) (take l.pair-index l.pairs)
