-- Which table a patch moves a table to: the one without the removed rows, and with the added ones.
use Rattle.std.specs.Prelude.{◌≡◌, ◌<◌, ℕ, List, All, length}
use Rattle.row_model.specs.Table.{Table}
use Rattle.row_model.specs.BothStates.{rows_in}
use Rattle.type_rows.specs.Patches.{MovesRows}
use Rattle.delta_blob.specs.Patch.{TypePatch}

-- This holds of each type that a patch names.
abbrev pub EachNamed : List TypePatch → (ℕ → TypePatch → Type 0) → Type 0
EachNamed patch P = All (λ named. P named.type_index named) patch

-- The patch names no such type.
abbrev pub IsUnnamed : List TypePatch → ℕ → Type 0
IsUnnamed patch type_index = All (λ named. named.type_index ≡ type_index → ⊥) patch

-- The rows of a type are moved: those under removed ordinals are gone, each added ordinal has its row, and the others stay.
abbrev pub MovesType : Table → Table → ℕ → TypePatch → Type 0
MovesType old new type_index patch = MovesRows (rows_in old type_index) (rows_in new type_index) patch.removed patch.added patch.rows

-- The patch moves the old table to the new one: in the types that it names the rows are moved, and in the others they stay.
pub record Moved (patch : List TypePatch) (old new : Table) : Type 0 where
  pub types : length new ≡ length old
  pub named : EachNamed patch (MovesType old new)
  pub others : (type_index : ℕ) → type_index < length old → IsUnnamed patch type_index → rows_in new type_index ≡ rows_in old type_index
