-- The producer as its published states tell it: the last state of its chain.
use Rattle.std.specs.Prelude.{ℕ, ℤ, pos, List, length}
use Rattle.schema_model.specs.declared.schema.Schema.{Schema}
use Rattle.row_model.specs.Table.{Table}
use Rattle.write_engine.specs.Cycle.{no_rows}
use Rattle.write_engine.specs.Production.{Production}

-- A producer: its model, the rows of the last published state, and the tag and the version of that state, which are 0 before the first.
pub record Published : Type 0 where
  pub model : List Schema
  pub rows : Table
  pub tag : ℤ
  pub version : ℕ

-- The producer of a model that has published nothing.
abbrev pub new_producer : List Schema → Published
new_producer schemas = record { model = schemas; rows = no_rows (length schemas); tag = pos 0; version = 0 }

-- The producer that is kept, as it is between two cycles.
abbrev pub published_of : Production → Published
published_of kept = record { model = kept.schemas; rows = kept.previous; tag = kept.tag; version = kept.version }
