use Rattle.std.proofs.Common.{◌≡◌, ℕ, ◌||◌, take}
use Rattle.hol_history.specs.Spots.{has, names}
use Rattle.hol_history.proofs.spots.put_spots.Given as goal

-- Those of the first ordinals are in beside what was in.
abbrev pub invariant-loop-ordinal : goal.invariant-loop-ordinal
invariant-loop-ordinal l = (t o n : ℕ) → has l.spots t o n ≡ (has l.fn.spots t o n || names l.type_index (take l.ordinal-index l.ordinals) l.number t o n)
