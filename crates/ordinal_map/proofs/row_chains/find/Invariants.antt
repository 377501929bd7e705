use Rattle.std.proofs.Common.{◌≡◌, ℕ, Some, length}
use Rattle.std.specs.Prelude.{Contains}
use Rattle.linked_slots.specs.Chained.{IsAt, left_at}
use Rattle.ordinal_map.specs.KeptRows.{row_under}
use Rattle.ordinal_map.proofs.row_chains.find.Given as goal

-- the row stands ahead, if it stands
abbrev pub invariant-loop-at : goal.invariant-loop-at
invariant-loop-at l = record {
  at : IsAt l.chains l.hash l.at;
  ahead : (ordinal : ℕ) → row_under l.rows ordinal ≡ Some l.row → Contains (left_at l.chains l.hash l.at) ordinal;
}

abbrev pub decreases-loop-at : goal.decreases-loop-at
decreases-loop-at l = length (left_at l.chains l.hash l.at)
