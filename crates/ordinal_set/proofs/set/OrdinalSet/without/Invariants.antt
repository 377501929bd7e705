use Rattle.std.proofs.Common.{◌≡◌, ◌-◌, ◌<◌, ◌^◌}
use Rattle.ordinal_set.specs.Ordinals.{members_below, lacking}
use Rattle.ordinal_set.proofs.set.OrdinalSet.without.Given as goal

abbrev pub invariant-loop-ordinal : goal.invariant-loop-ordinal
invariant-loop-ordinal l = record { small : l.from < 2 ^ 32; done : l.list ≡ members_below l.from (lacking l.self l.other) }

abbrev pub decreases-loop-ordinal : goal.decreases-loop-ordinal
decreases-loop-ordinal l = 2 ^ 32 - l.from
