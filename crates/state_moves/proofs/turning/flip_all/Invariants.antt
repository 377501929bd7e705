use Rattle.std.proofs.Common.{◌≡◌}
use Rattle.state_moves.proofs.Flips.{turned}
use Rattle.state_moves.proofs.Mapped.{first_mapped}
use Rattle.state_moves.proofs.turning.flip_all.Given as goal

abbrev pub invariant-loop-state : goal.invariant-loop-state
invariant-loop-state l = l.states ≡ first_mapped turned l.state-index l.initial.states
