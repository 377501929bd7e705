-- The places of the ordinals that were passed are clear.
use Rattle.std.proofs.Common.{◌-◌, ◌^◌}
use Rattle.ordinal_set.specs.Ordinals.{lacking}
use Rattle.kept_sections.specs.Moved.{IsClear}
use Rattle.kept_sections.proofs.Changing.{WrittenBelow}
use Rattle.kept_sections.proofs.moved.clear_gone.Given as goal

abbrev pub invariant-loop-ordinal : goal.invariant-loop-ordinal
invariant-loop-ordinal l = WrittenBelow (IsClear l.widths) l.widths l.initial.first l.first (lacking l.old l.new) l.from

abbrev pub decreases-loop-ordinal : goal.decreases-loop-ordinal
decreases-loop-ordinal l = 2 ^ 32 - l.from
