-- The rows of a type of a state as they are packed for its snapshot, and kept for the snapshot of the state after it.
use Rattle.std.specs.Prelude.{ℕ, ◌<◌, List, Option, length}
use Rattle.std.specs.List.{AllZip, range_with_len}
use Rattle.schema_model.specs.declared.schema.Schema.{Schema}
use Rattle.schema_model.specs.declared.schema.Shape.{Shape}
use Rattle.row_model.specs.declared.packed.Packed.{Packed}
use Rattle.row_model.specs.Table.{Table, IsLive}
use Rattle.type_rows.specs.Layout.{places_of}
use Rattle.row_packing.specs.declared.chosen.Chosen.{Chosen}
use Rattle.row_packing.specs.Chosen.{IsChosen, shape_at}
use Rattle.row_packing.specs.Packs.{PacksPlaces}
use Rattle.row_packing.specs.Places.{snapshot_places}
use Rattle.kept_sections.specs.declared.section.PackedSection.{PackedSection}

-- The words and bytes are those of the state's rows: place k is that of ordinal k, up to the max ordinal, with the widths that were chosen.
abbrev pub IsSection : Shape → Table → ℕ → Chosen → Packed → Type 0
IsSection shape table type_index chosen packed = PacksPlaces shape chosen.widths (snapshot_places table type_index chosen.max) packed.first packed.second packed.areas

-- Each row of the type has a place up to the max ordinal.
abbrev pub HavePlaces : Table → ℕ → Option ℕ → Type 0
HavePlaces table type_index max = (ordinal : ℕ) → IsLive table type_index ordinal → ordinal < places_of max

-- The section has all rows of the type packed.
pub record IsPackedOf (shape : Shape) (table : Table) (type_index : ℕ) (section : PackedSection) : Type 0 where
  pub packed : IsSection shape table type_index section.chosen section.packed
  pub placed : HavePlaces table type_index section.chosen.max

-- There is a section of each type of the state, in model order.
abbrev pub AreSections : List Schema → Table → List PackedSection → Type 0
AreSections schemas table sections = AllZip (λ type_index section. IsPackedOf (shape_at schemas type_index) table type_index section) (range_with_len 0 (length schemas)) sections

-- The section has the rows of the new state packed by what is chosen over it and the old one.
pub record IsPackedFor (shape : Shape) (old new : Table) (type_index : ℕ) (section : PackedSection) : Type 0 where
  pub chosen : IsChosen shape old new type_index section.chosen
  pub packed : IsSection shape new type_index section.chosen section.packed

-- There is such a section of each type, in model order.
abbrev pub AreSectionsFor : List Schema → Table → Table → List PackedSection → Type 0
AreSectionsFor schemas old new sections =
    AllZip (λ type_index section. IsPackedFor (shape_at schemas type_index) old new type_index section) (range_with_len 0 (length schemas)) sections
