use Rattle.std.proofs.Common.{◌-◌, ◌^◌}
use Rattle.type_rows.proofs.Walks.{NoneBefore}
use Rattle.type_rows.proofs.ordinals.first_staying_outside.Given as goal

abbrev pub invariant-loop-ordinal : goal.invariant-loop-ordinal
invariant-loop-ordinal l = NoneBefore l.live l.removed l.places l.from

abbrev pub decreases-loop-ordinal : goal.decreases-loop-ordinal
decreases-loop-ordinal l = 2 ^ 32 - l.from
