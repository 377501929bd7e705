use Rattle.std.proofs.Common.{ℕ, length}
use Rattle.std.specs.Prelude.{Contains}
use Rattle.linked_slots.specs.Chained.{IsAt, left_at}
use Rattle.change_orders.specs.Keys.{HasKeyOf}
use Rattle.change_orders.proofs.keyed_records.find.Given as goal

-- the key stands ahead, if it stands
abbrev pub invariant-loop-at : goal.invariant-loop-at
invariant-loop-at l = record {
  at : IsAt l.chains l.hash l.at;
  ahead : (place : ℕ) → HasKeyOf l.found l.one place → Contains (left_at l.chains l.hash l.at) place;
}

abbrev pub decreases-loop-at : goal.decreases-loop-at
decreases-loop-at l = length (left_at l.chains l.hash l.at)
