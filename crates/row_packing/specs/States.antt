-- Two states of one model whose rows a writer can lay out together.
use Rattle.std.specs.Prelude.{◌<◌, ℕ, List, length}
use Rattle.schema_model.specs.declared.schema.Schema.{Schema}
use Rattle.row_model.specs.Table.{Table}
use Rattle.row_packing.specs.Chosen.{shape_at, KeepsCounts}
use Rattle.row_packing.specs.Places.{Agree}

-- For each type they agree, and keep the limits on ordinals, items and bytes.
pub record AreWritable (schemas : List Schema) (old new : Table) : Type 0 where
  pub agree : (type_index : ℕ) → type_index < length schemas → Agree old new type_index
  pub keeps : (type_index : ℕ) → type_index < length schemas → KeepsCounts (shape_at schemas type_index) old new type_index
