use Rattle.std.proofs.Common.{◌≡◌, drop}
use Rattle.type_state.specs.Live.{without_all}
use Rattle.type_state.proofs.live.take_out.Given as goal

abbrev pub invariant-loop-ordinal : goal.invariant-loop-ordinal
invariant-loop-ordinal l = without_all l.set (drop l.ordinal-index l.removed) ≡ without_all l.fn.set l.removed
