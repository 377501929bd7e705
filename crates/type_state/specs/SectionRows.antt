-- The rows of a section of a snapshot, as they are laid out in a half.
use Rattle.std.specs.Prelude.{◌≡◌, ◌<◌, ◌≤◌, ℕ, List, Contains, None, Some, length, map}
use Rattle.std.specs.Coded.{Coded, coded_ℕ}
use Rattle.std.specs.FinMap.{code}
use Rattle.schema_model.specs.declared.schema.Shape.{Shape}
use Rattle.row_model.specs.contracts.row.Row as row_contract
use Rattle.row_model.specs.declared.row.Row.{Row}
use Rattle.row_model.specs.Table.{RowMap}
use Rattle.packed_half.specs.declared.half.HalfShape.{HalfShape}
use Rattle.packed_half.specs.Half.{item_words, layout_in, place_words}
use Rattle.packed_half.specs.LaidOut.{IsTight}
use Rattle.type_rows.specs.declared.section.Section.{Section}
use Rattle.type_rows.specs.Layout.{places_of}
use Rattle.type_rows.specs.Loads.{SectionIs, Spells, layout_of}
use Rattle.type_rows.specs.WellFormed.{IsReadable}
use Rattle.type_rows.specs.Rows.{rows_in}

abbrev pub rows_code : Coded RowMap
rows_code = code coded_ℕ (row_contract.the_row).coded

-- The section can be read, and each live ordinal has a place that spells a row.
pub record HasRows (shape : Shape) (section : Section) : Type 0 where
  pub readable : IsReadable shape section
  pub is : SectionIs shape section (rows_in shape section)

-- A section with another total.
abbrev pub with_total : Section → ℕ → Section
with_total section total =
    record { max = section.max; widths = section.widths; total = total; first = section.first; second = section.second; areas = section.areas; live = section.live }

-- A row is spelled at a place within so many items too, and the place takes no more than it.
pub record IsWithin (shape : Shape) (section : Section) (total place : ℕ) (row : Row) : Type 0 where
  pub spelled : Spells shape (with_total section total) place row
  pub tight : IsTight shape section place (Some row)

-- A place of a section takes no more than its row, within so many items: than whichever it spells where its ordinal is live, and nothing where it
-- is not.
pub record IsTightThere (shape : Shape) (section : Section) (total place : ℕ) : Type 0 where
  pub row : Contains section.live place → (row : Row) → Spells shape section place row → IsWithin shape section total place row
  pub gap : (Contains section.live place → ⊥) → IsTight shape section place None

-- The rows of a section stand in a half as they stand in the section: the layout is the same, the section has the words and bytes that the half
-- takes, maybe with more items behind, and no place takes more than its row.
pub record StandAlike (shape : Shape) (section : Section) (half : HalfShape) : Type 0 where
  pub layout : layout_in half ≡ layout_of section
  pub first : length section.first ≡ place_words shape half
  pub second : item_words shape half ≤ length section.second
  pub lengths : map (λ (area : List ℕ). length area) section.areas ≡ half.lengths
  pub tight : (place : ℕ) → place < places_of section.max → IsTightThere shape section half.total place
