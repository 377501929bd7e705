use Rattle.std.proofs.Common.{◌≡◌, take}
use Rattle.state_moves.proofs.moving.narrowed.Given as goal

abbrev pub invariant-loop-ordinal : goal.invariant-loop-ordinal
invariant-loop-ordinal l = l.narrow ≡ take l.ordinal-index l.ordinals
