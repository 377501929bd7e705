use Rattle.std.proofs.Common.{◌↔◌, take}
use Rattle.std.specs.Prelude.{Contains}
use Rattle.std.specs.List.{flat_map}
use Rattle.row_model.specs.declared.row.Value.{Value}
use Rattle.schema_model.specs.declared.model.walk_path.WalkPart.TheVariants.{Field as FieldPart}
use Rattle.hol_paths.specs.Reached.{values_by}
use Rattle.hol_paths.proofs.levels.field_values.Given as goal

-- what the rows before this one have in the field is there
abbrev pub invariant-loop-ordinal : goal.invariant-loop-ordinal
invariant-loop-ordinal g l = (value : Value) → Contains l.values value ↔ Contains (flat_map (values_by (g.R.Rows.table l.rows) l.type_index (FieldPart l.field)) (take l.ordinal-index l.level)) value
