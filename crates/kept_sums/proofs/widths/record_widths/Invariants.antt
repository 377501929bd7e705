use Rattle.std.proofs.Common.{◌≡◌, ◌++◌, ◌^◌, ◌<◌, List, Option, drop, sum_by}
use Rattle.schema_model.specs.declared.schema.name.Name.{Name}
use Rattle.schema_model.specs.declared.schema.Shape.{Shape}
use Rattle.row_model.specs.declared.row.Row.{Row}
use Rattle.object_codec.specs.Widths.{widths_for}
use Rattle.row_widths.proofs.RecordSpreads.{widths_from}
use Rattle.kept_sums.specs.Sums.{ArePartsOf, bytes_in}
use Rattle.kept_sums.proofs.widths.record_widths.Given as goal

abbrev pub invariant-loop-index : goal.invariant-loop-index
invariant-loop-index l = (key : Option (List Name)) (rows : List Row) → ArePartsOf (Shape.Object key l.fields) rows l.parts → sum_by bytes_in rows < 2 ^ 62
    → l.widths ++ widths_from l.index (drop l.index l.fields) rows ≡ widths_for l.fields rows
