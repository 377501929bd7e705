-- Patches of a type: which rows the part of a delta spells, and which rows it moves other rows to.
use Rattle.std.specs.Prelude.{◌≡◌, ◌<◌, ◌≤◌, ◌*◌, ◌^◌, ℕ, List, None, Some, IsSome, All, Contains, Result, Ok, Err, length, slice_get}
use Rattle.std.specs.List.Sorted.{IsStrictlyIncreasing}
use Rattle.std.specs.FinMap.{get}
use Rattle.bit_array.specs.Element.{words_of}
use Rattle.schema_model.specs.declared.limit.Limit.TheVariants.{Ordinals, Items}
use Rattle.schema_model.specs.Limit.{number_of_limit}
use Rattle.schema_model.specs.Parts.{shape_fields}
use Rattle.row_model.specs.Table.{RowMap}
use Rattle.schema_model.specs.declared.schema.Shape.{Shape}
use Rattle.row_model.specs.declared.row.Row.{Row}
use Rattle.type_rows.specs.declared.fault.RowFault.{RowFault}
use Rattle.type_rows.specs.declared.patch.PatchSection.{PatchSection}
use Rattle.type_rows.specs.declared.section.Section.{Section}
use Rattle.type_rows.specs.Layout.{Layout, place_bits, places_of}
use Rattle.type_rows.specs.Holds.{Holds, KeepsLimits}
use Rattle.type_rows.specs.Loads.{Spells}
use Rattle.type_rows.specs.WellFormed.{AreWidths}

-- The layout that a patch states.
abbrev pub patch_layout : PatchSection → Layout
patch_layout patch = record { max = patch.max; widths = patch.widths }

-- The places of a patch, as those of a section: place k is that of the k-th added ordinal.
abbrev pub places_in : PatchSection → Section
places_in patch = record {
  max = patch.max;
  widths = patch.widths;
  total = patch.total;
  first = patch.first;
  second = patch.second;
  areas = patch.areas;
  live = patch.added;
}

-- A patch is well formed: the widths are those that the kind may have, each field has an area, there are no fewer words than the places of the
-- added ordinals need, and the bits of the elements or buckets can be counted.
pub record IsWellFormedPatch (shape : Shape) (patch : PatchSection) : Type 0 where
  pub wide : AreWidths shape patch.max patch.widths
  pub filled : length patch.areas ≡ length (shape_fields shape)
  pub enough : words_of (length patch.added * place_bits shape patch.widths) ≤ length patch.first
  pub short : length patch.second < 2 ^ 58

-- The patch can be read: it is well formed, of a type of few fields, and its max ordinal and its total keep their limits.
pub record IsReadablePatch (shape : Shape) (patch : PatchSection) : Type 0 where
  pub well : IsWellFormedPatch shape patch
  pub many : length (shape_fields shape) ≤ 1024
  pub few : places_of patch.max ≤ number_of_limit Ordinals
  pub items : patch.total ≤ number_of_limit Items

-- The places of the patch spell these rows, one for each added ordinal.
pub record AddsRows (shape : Shape) (patch : PatchSection) (added : List Row) : Type 0 where
  pub each : length added ≡ length patch.added
  pub spelled : (place : ℕ) (row : Row) → slice_get added place ≡ Some row → Spells shape (places_in patch) place row

-- The ordinals of the patch fit some rows: the removed ones rise and are live, and the added ones rise, have a place, and are not live.
pub record FitsOrdinals (rows : RowMap) (layout : Layout) (removed added : List ℕ) : Type 0 where
  pub removed_rise : IsStrictlyIncreasing removed
  pub removed_live : All (λ ordinal. IsSome (get rows ordinal)) removed
  pub added_rise : IsStrictlyIncreasing added
  pub added_placed : All (λ ordinal. ordinal < places_of layout.max) added
  pub added_free : All (λ ordinal. get rows ordinal ≡ None) added

-- Rows are moved: those under removed ordinals are gone, each added ordinal has its row, and the others stay.
pub record MovesRows (old new : RowMap) (removed added : List ℕ) (rows : List Row) : Type 0 where
  pub gone : (ordinal : ℕ) → Contains removed ordinal → get new ordinal ≡ None
  pub came : (place ordinal : ℕ) → slice_get added place ≡ Some ordinal → get new ordinal ≡ slice_get rows place
  pub kept : (ordinal : ℕ) → (Contains removed ordinal → ⊥) → (Contains added ordinal → ⊥) → get new ordinal ≡ get old ordinal

-- The patch moves the old rows to the new ones: its ordinals fit the old rows, its places spell the rows under the added ones, its layout
-- holds the new rows, and they keep the limits.
pub record IsMovedBy (shape : Shape) (patch : PatchSection) (old new : RowMap) : Type 0 where
  pub added : List Row
  pub adds : AddsRows shape patch added
  pub ordinals : FitsOrdinals old (patch_layout patch) patch.removed patch.added
  pub moves : MovesRows old new patch.removed patch.added added
  pub held : Holds shape (patch_layout patch) new
  pub within : KeepsLimits shape patch.own (patch_layout patch) new

-- What a refusal tells of the patch.
abbrev pub RefusesMove : Shape → PatchSection → RowMap → RowFault → Type 0
RefusesMove shape patch old RowFault.Memory = Unit {0}
RefusesMove shape patch old _ = (rows : RowMap) → IsMovedBy shape patch old rows → ⊥

-- What each answer to a move tells, by the rows that it leaves.
abbrev pub TellsMove : Shape → PatchSection → RowMap → RowMap → Result (Unit {0}) RowFault → Type 0
TellsMove shape patch old rows (Ok done) = IsMovedBy shape patch old rows
TellsMove shape patch old rows (Err fault) = RefusesMove shape patch old fault
