-- A section of a snapshot as it is written: by what was chosen over two states, with the rows of one of them packed.
use Rattle.std.specs.Prelude.{◌≡◌, ◌≤◌, ℕ, List, All, length}
use Rattle.std.specs.FinMap.{keys}
use Rattle.schema_model.specs.Parts.{shape_fields}
use Rattle.row_model.specs.Row.{stored_row}
use Rattle.row_model.specs.Table.{Table}
use Rattle.row_model.specs.declared.row.Row.{Row}
use Rattle.schema_model.specs.declared.schema.Shape.{Shape}
use Rattle.row_model.specs.BothStates.{rows_in, rows_of_both}
use Rattle.type_rows.specs.declared.section.Section.{Section}
use Rattle.row_packing.specs.declared.chosen.Chosen.{Chosen}
use Rattle.row_packing.specs.Chosen.{Suits}
use Rattle.row_packing.specs.Packs.{PacksPlaces}
use Rattle.row_packing.specs.Places.{places_under, snapshot_places}

-- A blob can hold the row: it has no least INT and no least LONG.
abbrev pub IsStored : Row → Type 0
IsStored row = stored_row row ≡ row

-- The section has what was chosen, the ordinals of the state's rows as its live ones, and these rows packed.
pub record IsWritten (shape : Shape) (table : Table) (type_index : ℕ) (chosen : Chosen) (section : Section) : Type 0 where
  pub max : section.max ≡ chosen.max
  pub widths : section.widths ≡ chosen.widths
  pub total : section.total ≡ chosen.total
  pub live : section.live ≡ keys (rows_in table type_index)
  pub packed : PacksPlaces shape chosen.widths (snapshot_places table type_index chosen.max) section.first section.second section.areas

-- What the laws of written sections start from: the choice suits the state, a blob can hold the rows of both, and the type has few fields.
pub record CanBeWritten (shape : Shape) (table : Table) (type_index : ℕ) (chosen : Chosen) : Type 0 where
  pub suits : Suits shape table type_index chosen
  pub few : length (shape_fields shape) ≤ 1024
  pub stored : All IsStored (rows_of_both suits.old table type_index)

-- The parts have what was chosen, and the rows under these ordinals packed.
pub record ArePacked (shape : Shape) (table : Table) (type_index : ℕ) (chosen : Chosen) (ordinals : List ℕ) (section : Section) : Type 0 where
  pub widths : section.widths ≡ chosen.widths
  pub total : section.total ≡ chosen.total
  pub packed : PacksPlaces shape chosen.widths (places_under table type_index ordinals) section.first section.second section.areas
