-- Two states of one model between which a producer writes: what is known of each of them, and of both together.
use Rattle.std.specs.Prelude.{◌<◌, ℕ, List, All, length}
use Rattle.std.specs.Str.{IsUtf8}
use Rattle.schema_model.specs.declared.schema.Schema.{Schema}
use Rattle.schema_model.specs.Model.{IsModel}
use Rattle.schema_model.specs.Schema.{EachName}
use Rattle.row_model.specs.Table.{Table, EachRow, IsClosed, IsTableOf}
use Rattle.row_packing.specs.Chosen.{shape_at}
use Rattle.row_packing.specs.States.{AreWritable}
use Rattle.row_packing.specs.TypeLimit.{KeepsWords}
use Rattle.row_packing.specs.Written.{IsStored}

-- A model whose schemas can be written: each name is a text.
pub record IsWritableModel (schemas : List Schema) : Type 0 where
  pub model : IsModel schemas
  pub texts : All (EachName IsUtf8) schemas

-- A state of a model: a closed table of it, whose rows a blob can hold, since none has a least INT or LONG.
pub record IsState (schemas : List Schema) (table : Table) : Type 0 where
  pub rows : IsTableOf schemas table
  pub closed : IsClosed schemas table
  pub stored : EachRow schemas table (λ schema row. IsStored row)

-- Both are states of the model; they agree, and keep the limits of a cycle: those on ordinals, items and bytes, and for each type the
-- one on its fixed words, laid out as it is chosen.
pub record AreStates (schemas : List Schema) (old new : Table) : Type 0 where
  pub model : IsWritableModel schemas
  pub before : IsState schemas old
  pub after : IsState schemas new
  pub together : AreWritable schemas old new
  pub words : (type_index : ℕ) → type_index < length schemas → KeepsWords (shape_at schemas type_index) old new type_index
