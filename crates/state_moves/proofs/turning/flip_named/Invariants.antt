use Rattle.std.proofs.Common.{◌≡◌}
use Rattle.state_moves.proofs.Comings.{first_named}
use Rattle.state_moves.proofs.turning.flip_named.Given as goal

abbrev pub invariant-loop-type_index : goal.invariant-loop-type_index
invariant-loop-type_index l = l.states ≡ first_named l.type_index l.named l.initial.states
