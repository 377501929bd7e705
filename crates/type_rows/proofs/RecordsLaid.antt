-- The records of a type, laid out one behind the other.
use Rattle.std.proofs.Common.{◌≡◌, ℕ, ◌+◌, ◌-◌, ◌^◌, List, ◌++◌, Some, length, take, drop, append-nil, min, refl, ap, ◌∙◌, subst, arith}
use Rattle.std.specs.Prelude.{slice_get, slice_index}
use Rattle.std.specs.FinMap.{keys, values}
use Rattle.std.proofs.lemmas.List.{drop_all, take_all}
use Rattle.schema_model.specs.declared.schema.Shape.{Shape}
use Rattle.schema_model.specs.declared.reason.Reason.{Reason}
use Rattle.schema_model.specs.Parts.{shape_fields}
use Rattle.row_model.specs.declared.row.Row.{Row}
use Rattle.row_model.specs.declared.row.Value.{Value}
use Rattle.row_model.specs.Table.{RowMap}
use Rattle.object_codec.specs.ObjectPlace.{IsObject, SpellsObject}
use Rattle.type_rows.specs.declared.section.Section.{Section}
use Rattle.type_rows.specs.declared.fault.RowFault.{RowFault}
use Rattle.type_rows.specs.Ends.{FitsBehind, end_after}
use Rattle.type_rows.specs.Holds.{FitsWidths}
use Rattle.type_rows.specs.Layout.{items_of_row}
use Rattle.type_rows.specs.Loads.{SectionIs, Spells}
use Rattle.type_rows.specs.WordsHeld.{part_bytes, row_bytes}
use Rattle.type_rows.specs.LoadFault.{FailsLoad}
use Rattle.type_rows.specs.FieldEnds.{AddsRecord}
use Rattle.type_rows.specs.Sums.{AreLaid, IsOfRows}
use Rattle.type_rows.proofs.FoundRows.{row_there}
use Rattle.type_rows.proofs.Laying.{first_unheld, laid_more, laid_none}

-- The first so many records of the section are laid out.
abbrev pub RecordsLaid : Shape → Section → ℕ → List ℕ → ℕ → Type 0
RecordsLaid shape section index lengths bytes = (rows : RowMap) → SectionIs shape section rows → AreLaid shape section.widths (take index (values rows)) 0 lengths bytes

pub records_begun : (shape : Shape) (section : Section) (lengths : List ℕ) → ((field : ℕ) → slice_index lengths field ≡ 0) → RecordsLaid shape section 0 lengths 0
records_begun shape section lengths zeros rows is = laid_none shape section.widths (values rows) 0 lengths refl zeros

-- What the row of a place adds.
record Behind (shape : Shape) (widths lengths after : List ℕ) (more : ℕ) (row : Row) : Type 0 where
  pub fits : FitsBehind shape widths lengths 0 row
  pub grown : (field : ℕ) → slice_index after field ≡ slice_index lengths field + part_bytes field row
  pub counted : more ≡ min (row_bytes row) (2 ^ 64 - 1)
  pub none : items_of_row row ≡ 0

behind : (shape : Shape) (section : Section) (place : ℕ) (row : Row) (lengths after : List ℕ) (more : ℕ) → IsObject shape → Spells shape section place row
    → ((values : List Value) → SpellsObject (shape_fields shape) section.widths section.first section.areas place values → AddsRecord (shape_fields shape) section.widths lengths values after more)
    → Behind shape section.widths lengths after more row
behind (Shape.Object key fields) section place (Row.Object values) lengths after more object spells told =
    let adds = told values spells in record { fits = adds.fits; grown = adds.grown; counted = adds.counted; none = refl }
behind (Shape.Object key fields) section place _ lengths after more object spells told = absurd spells
behind _ section place row lengths after more object spells told = absurd object

not_behind : (shape : Shape) (section : Section) (place : ℕ) (row : Row) (lengths : List ℕ) → IsObject shape → Spells shape section place row
    → ((values : List Value) → SpellsObject (shape_fields shape) section.widths section.first section.areas place values → FitsWidths (shape_fields shape) section.widths (end_after lengths values) values → ⊥)
    → FitsBehind shape section.widths lengths 0 row → ⊥
not_behind (Shape.Object key fields) section place (Row.Object values) lengths object spells told fits = told values spells fits
not_behind (Shape.Object key fields) section place _ lengths object spells told fits = absurd spells
not_behind _ section place row lengths object spells told fits = absurd object

pub records_more : (shape : Shape) (section : Section) (live : List ℕ) (index place : ℕ) (lengths after : List ℕ) (bytes more counted : ℕ) → IsObject shape → live ≡ section.live → slice_get live index ≡ Some place
    → RecordsLaid shape section index lengths bytes
    → ((values : List Value) → SpellsObject (shape_fields shape) section.widths section.first section.areas place values → AddsRecord (shape_fields shape) section.widths lengths values after more)
    → counted ≡ min (bytes + more) (2 ^ 64 - 1) → RecordsLaid shape section (index + 1) after counted
records_more shape section live index place lengths after bytes more counted object same at laid told sum rows is =
    let there = row_there shape section rows index place is (subst (λ list. slice_get list index ≡ Some place) same at) in
    let adds = behind shape section place there.0 lengths after more object there.2 told in
    laid_more shape section.widths (values rows) index there.0 0 0 lengths after bytes counted (laid rows is) there.1 adds.fits (omega (arith, adds.none)) adds.grown (omega (arith, sum, adds.counted))

pub record_unheld : (shape : Shape) (section : Section) (live : List ℕ) (index place : ℕ) (lengths : List ℕ) (bytes : ℕ) → IsObject shape → live ≡ section.live → IsOfRows shape section → slice_get live index ≡ Some place
    → RecordsLaid shape section index lengths bytes
    → ((values : List Value) → SpellsObject (shape_fields shape) section.widths section.first section.areas place values → FitsWidths (shape_fields shape) section.widths (end_after lengths values) values → ⊥)
    → FailsLoad shape section (RowFault.At Reason.BadWidth place)
record_unheld shape section live index place lengths bytes object same leads at laid told =
    let rows = leads.0 in
    let here : slice_get section.live index ≡ Some place = subst (λ list. slice_get list index ≡ Some place) same at in
    let there = row_there shape section rows index place leads.1 here in (
      rows,
      leads.1,
      first_unheld shape section.widths (keys rows) (values rows) index place there.0 0 lengths bytes (laid rows leads.1)
          (ap (λ list. slice_get list index) leads.1.live ∙ here) there.1 (not_behind shape section place there.0 lengths object there.2 told),
    )

-- A slice that is written over whole, where it was lent from.
pub written_back : (old new : List ℕ) (len : ℕ) → length new ≡ length old → length old ≡ len → take len (new ++ drop (length new) old) ≡ new
written_back old new len same long =
    ap (λ rest. take len (new ++ rest)) (drop_all (length new) old (omega (arith, same))) ∙ ap (take len) (append-nil new) ∙ take_all len new (omega (arith, same, long))
