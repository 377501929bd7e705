-- What the rows of a section add up to, told without the rows, and what the test of a section tells.
use Rattle.std.specs.Prelude.{◌≡◌, ◌-◌, ◌^◌, ℕ, List, [], min, slice_index, Result, Ok, Err}
use Rattle.std.specs.FinMap.{values}
use Rattle.schema_model.specs.declared.schema.Shape.{Shape}
use Rattle.row_model.specs.declared.row.Row.{Row}
use Rattle.row_model.specs.Table.{RowMap}
use Rattle.type_rows.specs.declared.section.Section.{Section}
use Rattle.type_rows.specs.declared.fault.RowFault.{RowFault}
use Rattle.type_rows.specs.Layout.{item_count}
use Rattle.type_rows.specs.WordsHeld.{bytes_held, field_bytes}
use Rattle.type_rows.specs.Holds.{HoldsRows}
use Rattle.type_rows.specs.Loads.{Loads, SectionIs}
use Rattle.type_rows.specs.declared.sums.Sums.{Sums}
use Rattle.type_rows.specs.LoadFault.{FailsLoad}

-- The rows, laid out one behind the other, fit the widths, and add up to these.
pub record AreLaid (shape : Shape) (widths : List ℕ) (rows : List Row) (items : ℕ) (lengths : List ℕ) (bytes : ℕ) : Type 0 where
  pub held : HoldsRows shape widths [] rows
  pub counted : items ≡ item_count rows
  pub reached : (field : ℕ) → slice_index lengths field ≡ field_bytes field rows
  pub total : bytes ≡ min (bytes_held rows) (2 ^ 64 - 1)

-- The sums are those of the rows: their items, and the variable bytes of each field.
pub record AreSums (rows : RowMap) (sums : Sums) : Type 0 where
  pub items : sums.items ≡ item_count (values rows)
  pub lengths : (field : ℕ) → slice_index sums.lengths field ≡ field_bytes field (values rows)

-- The section is that of some rows.
abbrev pub IsOfRows : Shape → Section → Type 0
IsOfRows shape section = (rows : RowMap) × SectionIs shape section rows

-- The section is that of some rows, which fit the widths and add up to the sums and to so many bytes.
abbrev pub IsLaidOut : Shape → Section → Sums → ℕ → Type 0
IsLaidOut shape section sums bytes = (rows : RowMap) × SectionIs shape section rows × AreLaid shape section.widths (values rows) sums.items sums.lengths bytes

-- The section loads rows that add up to the sums.
abbrev pub LoadsSummed : Shape → Section → Sums → Type 0
LoadsSummed shape section sums = (rows : RowMap) × Loads shape section rows × AreSums rows sums

-- What each answer of the test tells.
abbrev pub TellsTest : Shape → Section → Result Sums RowFault → Type 0
TellsTest shape section (Ok sums) = LoadsSummed shape section sums
TellsTest shape section (Err fault) = FailsLoad shape section fault
