use Rattle.std.proofs.Common.{◌≡◌, take}
use Rattle.key_index.specs.Slots.{without}
use Rattle.key_index.proofs.reserved.remove_all.Given as goal

abbrev pub invariant-loop-ordinal : goal.invariant-loop-ordinal
invariant-loop-ordinal l = l.rows ≡ record l.initial.rows { keys = without l.initial.rows.keys (take l.ordinal-index l.removed) }
