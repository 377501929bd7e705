-- The variable bytes of one field in all records, and of all fields.
use Rattle.std.proofs.Common.{inl, inr, ◌≡◌, ℕ, zero, suc, ◌+◌, ◌-◌, ◌*◌, ◌^◌, ◌<◌, ◌≤◌, List, [], ◌∷◌, ◌++◌, Some, length, take, get_or, min, refl, ap, sym, ◌∙◌, subst, arith, zero-add}
use Rattle.std.specs.Prelude.{slice_get, sum}
use Rattle.std.specs.Option.{option_map_or}
use Rattle.std.specs.FinMap.{entries, values}
use Rattle.std.proofs.lemmas.Bool.{cases_lt}
use Rattle.std.proofs.lemmas.List.{get_or_append_left, get_or_push, length-map, take_all}
use Rattle.std.proofs.lemmas.Option.{slice_get-get_or}
use Rattle.schema_model.specs.declared.schema.Field.{Field}
use Rattle.schema_model.specs.declared.schema.Shape.{Shape}
use Rattle.schema_model.specs.Parts.{shape_fields}
use Rattle.row_model.specs.Areas.{area_of}
use Rattle.row_model.specs.declared.row.Row.{Row}
use Rattle.row_model.specs.declared.row.Value.{Value}
use Rattle.row_model.specs.Table.{RowMap}
use Rattle.object_codec.specs.Packing.{HasBytes}
use Rattle.object_codec.specs.Part.{SpellsValue}
use Rattle.object_codec.specs.ObjectPlace.{IsKindWidth, IsObject, part_at}
use Rattle.object_codec.specs.Cell.{IsWithin}
use Rattle.object_codec.proofs.FieldWidths.{fields_small, wide_at, within}
use Rattle.type_rows.specs.declared.section.Section.{Section}
use Rattle.type_rows.specs.Loads.{SectionIs, Spells}
use Rattle.type_rows.specs.WellFormed.{IsReadable, IsWidth}
use Rattle.type_rows.specs.WordsHeld.{field_bytes, part_bytes, value_bytes}
use Rattle.type_rows.specs.Layout.{places_of}
use Rattle.type_rows.proofs.Places.{holds_object, narrow_one, widths_long as type_widths_long}
use Rattle.type_rows.proofs.Reading.{more_bytes}
use Rattle.type_rows.specs.FieldEnds.{AreLengths}
use Rattle.type_rows.proofs.FoundRows.{row_there}
use Rattle.type_rows.proofs.Laying.{front_more}
use Rattle.type_rows.proofs.RecordLengths.{no_bytes}
use Rattle.type_rows.proofs.RecordWalks.{field_at}

-- A record has few bits.
pub record_small : (shape : Shape) (section : Section) → IsObject shape → IsReadable shape section → sum section.widths ≤ 65536
record_small (Shape.Object key fields) section object readable =
    fields_small (λ field width. IsWidth section.max field.kind width) (λ field width wide. narrow_one section.max field width wide) fields section.widths readable.many readable.well.wide
record_small _ section object readable = absurd object

-- The first so many records are summed.
abbrev pub ColumnSummed : Shape → Section → ℕ → ℕ → ℕ → Type 0
ColumnSummed shape section field index count = (rows : RowMap) → SectionIs shape section rows → count ≡ min (field_bytes field (take index (values rows))) (2 ^ 64 - 1)

pub column_begun : (shape : Shape) (section : Section) (field : ℕ) → ColumnSummed shape section field 0 0
column_begun shape section field rows is = omega arith

-- What is told of the length of the field's value at a place.
abbrev pub TellsValue : Shape → Section → ℕ → Field → ℕ → ℕ → Type 0
TellsValue shape section index field place count =
    (value : Value) → SpellsValue field.kind (part_at section.first (sum section.widths) place (sum (take index section.widths)) (get_or section.widths index 0) (area_of section.areas index)) value → count ≡ value_bytes value

part_long : (shape : Shape) (section : Section) (index place count : ℕ) (field : Field) (row : Row) → IsObject shape → index < length (shape_fields shape) → field ≡ get_or (shape_fields shape) index field
    → Spells shape section place row → TellsValue shape section index field place count → count ≡ part_bytes index row
part_long (Shape.Object key fields) section index place count field (Row.Object record_values) object inside is spells told =
    let there = field_at fields section.widths section.first section.areas (sum section.widths) place 0 index field record_values spells inside is in
    let long = told there.0 (subst (λ (b : ℕ). SpellsValue field.kind (part_at section.first (sum section.widths) place b (get_or section.widths index 0) (area_of section.areas index)) there.0) (zero-add (sum (take index section.widths))) there.2) in
    long ∙ sym (ap (λ o. option_map_or value_bytes o 0) there.1)
part_long (Shape.Object key fields) section index place count field _ object inside is spells told = absurd spells
part_long _ section index place count field row object inside is spells told = absurd object

pub column_more : (shape : Shape) (section : Section) (live : List ℕ) (index at place count more total : ℕ) (field : Field) → IsObject shape → live ≡ section.live → slice_get live at ≡ Some place
    → index < length (shape_fields shape) → field ≡ get_or (shape_fields shape) index field → TellsValue shape section index field place more → ColumnSummed shape section index at count → total ≡ min (count + more) (2 ^ 64 - 1)
    → ColumnSummed shape section index (at + 1) total
column_more shape section live index at place count more total field object same stands inside field_is told summed sum_is rows is =
    let there = row_there shape section rows at place is (subst (λ list. slice_get list at ≡ Some place) same stands) in
    let long = part_long shape section index place more field there.0 object inside field_is there.2 told in
    let front = ap (field_bytes index) (front_more (values rows) at there.0 there.1) ∙ more_bytes index (take at (values rows)) there.0 in
    omega (arith, sum_is, summed rows is, long, front)

-- Values without variable bytes sum up to nothing.
pub column_none : (shape : Shape) (section : Section) (index : ℕ) (field : Field) → IsObject shape → index < length (shape_fields shape) → field ≡ get_or (shape_fields shape) index field → (HasBytes field.kind → ⊥)
    → (at : ℕ) → at ≤ length section.live → ColumnSummed shape section index at 0
column_none shape section index field object inside is none zero within_live = column_begun shape section index
column_none shape section index field object inside is none (suc at) within_live =
    let next : at + 1 ≡ suc at = omega arith in
    let place = get_or section.live at 0 in
    subst (λ (n : ℕ). ColumnSummed shape section index n 0) next
    (column_more shape section section.live index at place 0 0 0 field object refl (slice_get-get_or section.live at 0 (omega (arith, within_live))) inside is
    (λ value spells. no_bytes field.kind (part_at section.first (sum section.widths) place (sum (take index section.widths)) (get_or section.widths index 0) (area_of section.areas index)) value none spells)
    (column_none shape section index field object inside is none at (omega (arith, within_live))) (omega arith))

-- All records are summed.
pub column_whole : (shape : Shape) (section : Section) (index count : ℕ) (rows : RowMap) → ColumnSummed shape section index (length section.live) count → SectionIs shape section rows → count ≡ min (field_bytes index (values rows)) (2 ^ 64 - 1)
column_whole shape section index count rows summed is =
    let many : length section.live ≡ length (values rows) = sym (ap length is.live) ∙ length-map (entries rows) (λ e. e.0) ∙ sym (length-map (entries rows) (λ e. e.1)) in
    summed rows is ∙ ap (λ (some : List Row). min (field_bytes index some) (2 ^ 64 - 1)) (take_all (length section.live) (values rows) (omega (arith, many)))

-- ---- at a place

pub object_long : (shape : Shape) (section : Section) → IsObject shape → IsReadable shape section → length section.widths ≡ length (shape_fields shape)
object_long (Shape.Object key fields) section object readable = type_widths_long (Shape.Object key fields) section readable
object_long _ section object readable = absurd object

module _ (shape : Shape) (section : Section) (place index : ℕ) (object : IsObject shape) (readable : IsReadable shape section) (low : place < places_of section.max) (inside : index < length (shape_fields shape)) where
  pub column_within : IsWithin section.first (sum section.widths) place (sum (take index section.widths)) (get_or section.widths index 0)
  column_within = within (shape_fields shape) section.widths section.first section.areas place index (sum (take index section.widths)) (holds_object shape section place object readable low) inside refl

  pub column_wide : (field : Field) → field ≡ get_or (shape_fields shape) index field → IsKindWidth field.kind (get_or section.widths index 0)
  column_wide field is = wide_at (shape_fields shape) section.widths section.first section.areas place index field (holds_object shape section place object readable low) inside is

-- What is told by the parts that were lent is told of the section.
pub tells_value : (section : Section) (shape : Shape) (index place count : ℕ) (field : Field) (first widths : List ℕ) (size before bytes : ℕ) → first ≡ section.first → widths ≡ section.widths → size ≡ sum section.widths
    → before ≡ sum (take index section.widths) → bytes ≡ length (area_of section.areas index) → sum (take index section.widths) + get_or section.widths index 0 ≤ sum section.widths
    → ((p b : ℕ) (area : List ℕ) (value : Value) → place * size + before ≡ p * size + b → b + get_or widths index 0 ≤ size → bytes ≡ length area → SpellsValue field.kind (part_at first size p b (get_or widths index 0) area) value → count ≡ value_bytes value)
    → TellsValue shape section index field place count
tells_value section shape index place count field first widths size before bytes one two three four five held told value spells =
    let area = area_of section.areas index in
    let width : get_or widths index 0 ≡ get_or section.widths index 0 = ap (λ w. get_or w index 0) two in
    told place before area value refl (omega (arith, held, width, three, four)) five
    (subst (λ (f : List ℕ). SpellsValue field.kind (part_at f size place before (get_or widths index 0) area) value) (sym one)
    (subst (λ (w : List ℕ). SpellsValue field.kind (part_at section.first size place before (get_or w index 0) area) value) (sym two)
    (subst (λ (s : ℕ). SpellsValue field.kind (part_at section.first s place before (get_or section.widths index 0) area) value) (sym three)
    (subst (λ (b : ℕ). SpellsValue field.kind (part_at section.first (sum section.widths) place b (get_or section.widths index 0) area) value) (sym four) spells))))

-- ---- field by field

pub lengths_more : (shape : Shape) (section : Section) (lengths : List ℕ) (index count : ℕ) → length lengths ≡ index → AreLengths shape section lengths index
    → ((rows : RowMap) → SectionIs shape section rows → count ≡ min (field_bytes index (values rows)) (2 ^ 64 - 1)) → AreLengths shape section (lengths ++ count ∷ []) (index + 1)
lengths_more shape section lengths index count long before here rows is field below = elim (cases_lt field index) [
  | inl low ↦ get_or_append_left lengths (count ∷ []) 0 field (omega (arith, low, long)) ∙ before rows is field low
  | inr high ↦ (
      let same : index ≡ field = omega (arith, below, high) in
      subst (λ (f : ℕ). get_or (lengths ++ count ∷ []) f 0 ≡ min (field_bytes f (values rows)) (2 ^ 64 - 1)) same (get_or_push lengths count 0 index long ∙ here rows is))
]
