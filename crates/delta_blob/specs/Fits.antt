-- When a patch fits a table of a model: its ordinals can be removed and added, and the table that it moves to is closed and held.
use Rattle.std.specs.Prelude.{ℕ, List}
use Rattle.schema_model.specs.declared.schema.Schema.{Schema}
use Rattle.row_model.specs.Table.{Table, IsClosed}
use Rattle.row_model.specs.BothStates.{rows_in}
use Rattle.type_rows.specs.Holds.{Holds}
use Rattle.type_rows.specs.Patches.{FitsOrdinals}
use Rattle.delta_blob.specs.Moved.{EachNamed, Moved}
use Rattle.delta_blob.specs.Patch.{TypePatch}

-- The ordinals of a type's patch fit the rows that the table has of the type.
abbrev pub FitsTable : Table → ℕ → TypePatch → Type 0
FitsTable table type_index patch = FitsOrdinals (rows_in table type_index) patch.layout patch.removed patch.added

-- The layout of a type's patch holds the rows that the table has of the type.
abbrev pub HoldsTable : Table → ℕ → TypePatch → Type 0
HoldsTable table type_index patch = Holds patch.schema.shape patch.layout (rows_in table type_index)

-- The patch fits the table of a model: in each type that it names its ordinals fit, and the table that it moves to is closed, and held by the
-- patch's layouts.
pub record Fits (schemas : List Schema) (table : Table) (patch : List TypePatch) : Type 0 where
  pub ordinals : EachNamed patch (FitsTable table)
  pub moved : Table
  pub moves : Moved patch table moved
  pub closed : IsClosed schemas moved
  pub held : EachNamed patch (HoldsTable moved)
