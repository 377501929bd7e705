use Rattle.std.proofs.Common.{◌≡◌, drop}
use Rattle.type_state.specs.Live.{with_all}
use Rattle.type_state.proofs.live.put_in.Given as goal

abbrev pub invariant-loop-ordinal : goal.invariant-loop-ordinal
invariant-loop-ordinal l = with_all l.set (drop l.ordinal-index l.added) ≡ with_all l.fn.set l.added
