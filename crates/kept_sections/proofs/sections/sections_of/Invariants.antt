-- The sections of the types that were passed.
use Rattle.std.specs.List.{AllZip, range_with_len}
use Rattle.row_packing.specs.Chosen.{shape_at}
use Rattle.kept_sections.specs.Sections.{IsPackedFor}
use Rattle.kept_sections.proofs.sections.sections_of.Given as goal

abbrev pub invariant-loop-type_index : goal.invariant-loop-type_index
invariant-loop-type_index g l =
    AllZip (λ t section. IsPackedFor (shape_at (g.B.Rows.schemas l.new) t) (g.A.Rows.table l.old) (g.B.Rows.table l.new) t section) (range_with_len 0 l.type_index) l.sections
