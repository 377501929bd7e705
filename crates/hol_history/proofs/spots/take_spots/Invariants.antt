use Rattle.std.proofs.Common.{◌≡◌, ℕ, ◌&&◌, not, take}
use Rattle.hol_history.specs.Spots.{has, names}
use Rattle.hol_history.proofs.spots.take_spots.Given as goal

-- Those of the first ordinals are out.
abbrev pub invariant-loop-ordinal : goal.invariant-loop-ordinal
invariant-loop-ordinal l = (t o n : ℕ) → has l.spots t o n ≡ (has l.fn.spots t o n && not (names l.type_index (take l.ordinal-index l.ordinals) l.number t o n))
