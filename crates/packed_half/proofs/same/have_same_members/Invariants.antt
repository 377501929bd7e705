use Rattle.std.proofs.Common.{◌≡◌, ◌-◌, ◌<◌, ◌^◌}
use Rattle.ordinal_set.specs.Ordinals.{members_below}
use Rattle.packed_half.proofs.same.have_same_members.Given as goal

-- the first members are the same
abbrev pub invariant-loop-ordinal : goal.invariant-loop-ordinal
invariant-loop-ordinal l = record { small : l.from < 2 ^ 32; done : members_below l.from l.set ≡ members_below l.from l.other }

abbrev pub decreases-loop-ordinal : goal.decreases-loop-ordinal
decreases-loop-ordinal l = 2 ^ 32 - l.from
