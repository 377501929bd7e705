-- What is left of a table of which some rows stay.
use Rattle.std.specs.Prelude.{List, ℕ, ◌≡◌, ◌⊎◌, Contains, length}
use Rattle.schema_model.specs.declared.schema.Schema.{Schema}
use Rattle.row_model.specs.Table.{Table, IsClosed, IsLive}
use Rattle.write_engine.specs.RowDrops.{IsNamed}
use Rattle.hol_incremental.specs.Beside.{IsPartOf}
use Rattle.hol_incremental.specs.Edited.{Keys, Records, StaysRoot}

-- The row stays for its own sake: it is a root of the previous state that stays in the edited list, or the top row of a record that is put.
abbrev pub StaysOwn : List Schema → Table → Records → Keys → List (ℕ × ℕ) → ℕ → ℕ → Type 0
StaysOwn schemas previous puts removes tops t ordinal = StaysRoot schemas previous puts removes t ordinal ⊎ Contains tops (t, ordinal)

-- The rows that stay for their own sake are left of the table, and what rows that are left name; and no other row is: each one stays for its own sake, or is
-- named by one that is left.
pub record IsLeftOf (schemas : List Schema) (stays : ℕ → ℕ → Type 0) (whole left : Table) : Type 0 where
  pub types : length left ≡ length whole
  pub within : IsPartOf left whole
  pub closed : IsClosed schemas left
  pub kept : (type_index ordinal : ℕ) → stays type_index ordinal → IsLive left type_index ordinal
  pub reached : (type_index ordinal : ℕ) → IsLive left type_index ordinal → stays type_index ordinal ⊎ IsNamed schemas left type_index ordinal
