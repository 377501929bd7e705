use Rattle.std.proofs.Common.{◌≡◌, replicate}
use Rattle.row_model.specs.Before.{no_part}
use Rattle.state_moves.proofs.past.no_past.Given as goal

abbrev pub invariant-loop-type_index : goal.invariant-loop-type_index
invariant-loop-type_index l = l.past ≡ replicate l._type_index no_part
