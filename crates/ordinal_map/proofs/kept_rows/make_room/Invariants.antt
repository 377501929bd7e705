use Rattle.std.proofs.Common.{◌≡◌, ℕ, ◌+◌, ◌-◌, ◌≤◌, length, max, vec_len}
use Rattle.ordinal_map.specs.KeptRows.{row_under}
use Rattle.ordinal_map.proofs.kept_rows.make_room.Given as goal

abbrev pub invariant-loop-rows : goal.invariant-loop-rows
invariant-loop-rows l = record {
  same : (o : ℕ) → row_under l.rows.items o ≡ row_under l.initial.rows.items o;
  few : length l.rows.items ≤ max (length l.initial.rows.items) (l.ordinal + 1);
}

abbrev pub decreases-loop-rows : goal.decreases-loop-rows
decreases-loop-rows l = l.ordinal + 1 - vec_len l.rows
