use Rattle.std.proofs.Common.{◌≡◌, false, replicate}
use Rattle.state_moves.proofs.moved.none_named.Given as goal

abbrev pub invariant-loop-type_index : goal.invariant-loop-type_index
invariant-loop-type_index l = l.named ≡ replicate l._type_index false
