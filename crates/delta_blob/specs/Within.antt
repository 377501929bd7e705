-- The limits on the types that a patch names, in the table that it moves to.
use Rattle.std.specs.Prelude.{◌≤◌, ℕ, List, All}
use Rattle.schema_model.specs.declared.limit.Limit.TheVariants.{Ordinals, Items}
use Rattle.schema_model.specs.Limit.{number_of_limit}
use Rattle.schema_model.specs.declared.schema.Schema.{Schema}
use Rattle.row_model.specs.Table.{Table}
use Rattle.row_model.specs.BothStates.{rows_in}
use Rattle.type_rows.specs.Holds.{KeepsLimits}
use Rattle.type_rows.specs.Layout.{places_of}
use Rattle.delta_blob.specs.declared.part.DeltaPart.{DeltaPart}
use Rattle.delta_blob.specs.Moved.{EachNamed}
use Rattle.delta_blob.specs.Patch.{TypePatch, parts_for}

-- The limits on the ordinals of a type, and on the words and bytes of its rows at the patch's layout, are kept.
pub record IsTypeWithin (table : Table) (type_index : ℕ) (patch : TypePatch) : Type 0 where
  pub ordinals : places_of patch.layout.max ≤ number_of_limit Ordinals
  pub kept : KeepsLimits patch.schema.shape patch.own patch.layout (rows_in table type_index)

-- They are kept in each type that the patch names.
abbrev pub Within : Table → List TypePatch → Type 0
Within table patch = EachNamed patch (IsTypeWithin table)

-- The limit on the elements or buckets of each type that the model has is kept.
abbrev pub KeepItems : List Schema → List DeltaPart → Type 0
KeepItems schemas parts = All (λ part. part.section.total ≤ number_of_limit Items) (parts_for schemas parts)
