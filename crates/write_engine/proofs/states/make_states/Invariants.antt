use Rattle.std.proofs.Common.{◌≡◌}
use Rattle.std.specs.Prelude.{replicate}
use Rattle.write_engine.specs.Production.{no_states}
use Rattle.write_engine.proofs.states.make_states.Given as goal

abbrev pub invariant-loop-type : goal.invariant-loop-type
invariant-loop-type l = l.maps.items ≡ replicate l._type no_states
