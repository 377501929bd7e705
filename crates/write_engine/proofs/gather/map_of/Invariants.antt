use Rattle.std.proofs.Common.{◌≡◌, ℕ, take}
use Rattle.std.specs.Prelude.{nat_eq}
use Rattle.std.specs.Map.{lookup}
use Rattle.std.specs.Ordering.{nat_cmp}
use Rattle.std.specs.BTreeMap.{get, IsOrdered}
use Rattle.write_engine.proofs.gather.map_of.Given as goal

abbrev pub invariant-loop-pair : goal.invariant-loop-pair
invariant-loop-pair l = record {
  ordered : IsOrdered nat_cmp l.members;
  same : (q : ℕ) → get nat_cmp l.members q ≡ lookup (nat_eq q) (take l.pair-index l.pairs);
}
