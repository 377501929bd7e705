-- The rows under the ordinals that were passed are written.
use Rattle.std.proofs.Common.{◌-◌, ◌^◌}
use Rattle.ordinal_set.specs.Ordinals.{lacking}
use Rattle.row_packing.specs.Chosen.{shape_at}
use Rattle.kept_sections.specs.Moved.{SpellsRowUnder}
use Rattle.kept_sections.proofs.Changing.{WrittenBelow}
use Rattle.kept_sections.proofs.moved.put_come.Given as goal

abbrev pub invariant-loop-ordinal : goal.invariant-loop-ordinal
invariant-loop-ordinal g l =
    WrittenBelow (SpellsRowUnder (shape_at (g.R.Rows.schemas l.rows) l.type_index) (g.R.Rows.table l.rows) l.type_index l.widths) l.widths l.initial.first l.first (lacking l.live l.old) l.from

abbrev pub decreases-loop-ordinal : goal.decreases-loop-ordinal
decreases-loop-ordinal g l = 2 ^ 32 - l.from
