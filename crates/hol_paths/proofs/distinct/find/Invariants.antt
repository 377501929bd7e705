use Rattle.std.proofs.Common.{◌≡◌, ℕ, Some, length}
use Rattle.std.specs.Prelude.{Contains, slice_get}
use Rattle.linked_slots.specs.Chained.{IsAt, left_at}
use Rattle.hol_paths.proofs.distinct.find.Given as goal

-- the value stands ahead, if it stands
abbrev pub invariant-loop-at : goal.invariant-loop-at
invariant-loop-at l = record {
  at : IsAt l.chains l.hash l.at;
  ahead : (place : ℕ) → slice_get l.values place ≡ Some l.value → Contains (left_at l.chains l.hash l.at) place;
}

abbrev pub decreases-loop-at : goal.decreases-loop-at
decreases-loop-at l = length (left_at l.chains l.hash l.at)
