-- The two states of a type that are kept: the current one, and beside it the one before or the next one.
use Rattle.std.specs.Prelude.{◌≡◌, ℕ, List, [], length, Option, None, refl}
use Rattle.std.specs.Coded.{Coded, code_by, coded×, coded_ℕ, coded_list, coded_option}
use Rattle.std.specs.FinMap.{code, empty}
use Rattle.schema_model.specs.declared.schema.Schema.{Schema}
use Rattle.schema_model.specs.contracts.schema.Schema as schema_contract
use Rattle.row_model.specs.contracts.row.Row as row_contract
use Rattle.row_model.specs.Table.{RowMap}
use Rattle.type_rows.specs.declared.outline.Outline.{Outline}
use Rattle.type_rows.specs.Layout.{Layout, width_count}

-- The rows of a type in one state, by ordinal, and their layout in the blob that gave them.
pub record Half : Type 0 where
  pub layout : Layout
  pub rows : RowMap

-- A type with its current rows, and the others: those before a step, or those that come next.
pub record State : Type 0 where
  pub schema : Schema
  pub current : Half
  pub other : Half

-- No rows, and no layout.
abbrev pub empty_half : Half
empty_half = record { layout = record { max = None; widths = [] }; rows = empty }

-- A half with this outline and these rows.
abbrev pub half_of : Outline → RowMap → Half
half_of outline rows = record { layout = record { max = outline.max; widths = outline.widths }; rows = rows }

-- A half is laid out where it has as many widths as its kind has.
abbrev pub IsLaidOut : Schema → Half → Type 0
IsLaidOut schema half = length half.layout.widths ≡ width_count schema.shape

abbrev pub layout_code : Coded Layout
layout_code = code_by (Option ℕ × List ℕ) (coded× (coded_option coded_ℕ) (coded_list coded_ℕ)) (λ l. (l.max, l.widths)) (λ p. record { max = p.0; widths = p.1 }) (λ _. refl)

abbrev pub half_code : Coded Half
half_code = code_by (Layout × RowMap) (coded× layout_code (code coded_ℕ (row_contract.the_row).coded)) (λ h. (h.layout, h.rows)) (λ p. record { layout = p.0; rows = p.1 }) (λ _. refl)

abbrev pub state_code : Coded State
state_code =
    code_by (Schema × (Half × Half)) (coded× (schema_contract.the_row).coded (coded× half_code half_code)) (λ s. (s.schema, (s.current, s.other))) (λ p. record { schema = p.0; current = p.1.0; other = p.1.1 }) (λ _. refl)
