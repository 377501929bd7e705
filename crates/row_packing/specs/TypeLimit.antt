-- The limits of a type as a cycle tries them over an old and a new state: its items, the bytes of each state, and the fixed words of each.
use Rattle.std.specs.Prelude.{◌≤◌, ℕ, Option, Some, None}
use Rattle.schema_model.specs.declared.limit.Limit.{Limit}
use Rattle.schema_model.specs.declared.limit.Limit.TheVariants.{Items, Words, Bytes}
use Rattle.schema_model.specs.declared.schema.Shape.{Shape}
use Rattle.schema_model.specs.Limit.{number_of_limit}
use Rattle.row_model.specs.Table.{Table}
use Rattle.row_model.specs.BothStates.{rows_of_both}
use Rattle.object_codec.specs.Widths.{live_rows}
use Rattle.type_rows.specs.Layout.{Layout, fixed_words}
use Rattle.type_rows.specs.WordsHeld.{bytes_held}
use Rattle.row_packing.specs.Chosen.{IsGreatestOrdinal, chosen_widths, chosen_total}

-- The elements or buckets of both states, a row that both have counted once.
abbrev pub KeepsItems : Shape → Table → Table → ℕ → Type 0
KeepsItems shape old new type_index = chosen_total shape (rows_of_both old new type_index) ≤ number_of_limit Items

-- The variable bytes of each state.
abbrev pub KeepsBytes : Table → Table → ℕ → Type 0
KeepsBytes old new type_index = (bytes_held (live_rows old type_index) ≤ number_of_limit Bytes) × (bytes_held (live_rows new type_index) ≤ number_of_limit Bytes)

-- The layout that is chosen, with this max ordinal.
abbrev pub chosen_layout : Shape → Table → Table → ℕ → Option ℕ → Layout
chosen_layout shape old new type_index max = record { max = max; widths = chosen_widths shape (rows_of_both old new type_index) }

-- The fixed words of each state, laid out as it is chosen.
abbrev pub KeepsWords : Shape → Table → Table → ℕ → Type 0
KeepsWords shape old new type_index =
    (max : Option ℕ) → IsGreatestOrdinal old new type_index max
    → (fixed_words shape (chosen_layout shape old new type_index max) (live_rows old type_index) ≤ number_of_limit Words)
    × (fixed_words shape (chosen_layout shape old new type_index max) (live_rows new type_index) ≤ number_of_limit Words)

-- The first of these limits that is passed, none where all are kept.
abbrev pub TellsLimit : Shape → Table → Table → ℕ → Option Limit → Type 0
TellsLimit shape old new type_index None = KeepsItems shape old new type_index × KeepsBytes old new type_index × KeepsWords shape old new type_index
TellsLimit shape old new type_index (Some Items) = KeepsItems shape old new type_index → ⊥
TellsLimit shape old new type_index (Some Bytes) = KeepsItems shape old new type_index × (KeepsBytes old new type_index → ⊥)
TellsLimit shape old new type_index (Some Words) = KeepsItems shape old new type_index × KeepsBytes old new type_index × (KeepsWords shape old new type_index → ⊥)
TellsLimit shape old new type_index (Some _) = ⊥
