-- Where the last end offset of each field is held, so are all: the records of a section fit, laid out one behind the other.
use Rattle.std.proofs.Common.{inl, inr, ◌≡◌, ℕ, zero, suc, ◌+◌, ◌-◌, ◌*◌, ◌^◌, ◌<◌, ◌≤◌, List, [], ◌∷◌, Some, length, take, get_or, min, refl, ap, sym, ◌∙◌, subst, arith}
use Rattle.std.specs.Prelude.{All, slice_get, slice_index, sum, sum_by}
use Rattle.std.specs.FinMap.{entries, values}
use Rattle.std.specs.Map.{values_of}
use Rattle.std.specs.Option.{option_map_or}
use Rattle.std.proofs.lemmas.Bool.{cases_lt}
use Rattle.std.proofs.lemmas.List.{get_or_past, length-map, take_all}
use Rattle.std.proofs.lemmas.List.Sums.{sum_by-cons, sum_by-take-le, sum_by_more}
use Rattle.std.proofs.lemmas.Option.{slice_get-get_or, slice_get_past, slice_get_within}
use Rattle.bit_array.proofs.Elements.{element_of-lt}
use Rattle.schema_model.specs.declared.schema.Field.{Field}
use Rattle.schema_model.specs.declared.schema.FieldKind.{FieldKind}
use Rattle.schema_model.specs.declared.schema.Shape.{Shape}
use Rattle.schema_model.specs.Parts.{shape_fields}
use Rattle.row_model.specs.Areas.{area_of}
use Rattle.row_model.specs.declared.row.Row.{Row}
use Rattle.row_model.specs.declared.row.Value.{Value}
use Rattle.row_model.specs.Table.{RowMap}
use Rattle.object_codec.specs.ObjectPlace.{IsObject, part_at, parts_of}
use Rattle.type_rows.specs.declared.section.Section.{Section}
use Rattle.type_rows.specs.Holds.{FitsWidth, HoldsRow, HoldsRows}
use Rattle.type_rows.specs.Layout.{item_count, items_of_row, places_of}
use Rattle.type_rows.specs.Loads.{IsSpelledIn, SectionIs, Spells}
use Rattle.type_rows.specs.WellFormed.{IsReadable}
use Rattle.type_rows.specs.WordsHeld.{bytes_held, field_bytes, part_bytes, row_bytes, value_bytes}
use Rattle.type_rows.proofs.Reading.{held_more}
use Rattle.type_rows.specs.Ordinals.{HasNoPlace, HoldsNowhere}
use Rattle.type_rows.specs.FieldEnds.{AreLengths, EndFits, EndsFit}
use Rattle.type_rows.specs.Sums.{AreLaid}
use Rattle.type_rows.proofs.OnceFirst.{some_once}
use Rattle.type_rows.proofs.FoundRows.{listed_below, row_there}
use Rattle.type_rows.proofs.Laying.{front_more}
use Rattle.type_rows.proofs.RecordLengths.{value_fits}
use Rattle.type_rows.proofs.RecordWalks.{field_at, fields_long}
use Rattle.type_rows.proofs.Columns.{column_wide}

-- ---- rows that are records of so many values

abbrev pub IsRecordOf : ℕ → Row → Type 0
IsRecordOf many (Row.Object record_values) = length record_values ≡ many
IsRecordOf many _ = ⊥

abbrev pub AreRecordsOf : ℕ → List Row → Type 0
AreRecordsOf many [] = Unit {0}
AreRecordsOf many (row ∷ rows) = IsRecordOf many row × AreRecordsOf many rows

record_of : (shape : Shape) (section : Section) (place : ℕ) (row : Row) → IsObject shape → Spells shape section place row → IsRecordOf (length (shape_fields shape)) row
record_of (Shape.Object key fields) section place (Row.Object record_values) object spells = fields_long fields (parts_of section.widths section.first section.areas place) record_values spells
record_of (Shape.Object key fields) section place _ object spells = absurd spells
record_of _ section place row object spells = absurd object

records_of : (shape : Shape) (section : Section) (found : List (ℕ × Row)) → IsObject shape → All (IsSpelledIn shape section) found → AreRecordsOf (length (shape_fields shape)) (values_of found)
records_of shape section [] object all = tt
records_of shape section (entry ∷ rest) object all =
    (record_of shape section entry.0 entry.1 object (all 0 entry (omega arith)), records_of shape section rest object (λ k d l. all (suc k) d (omega (arith, l))))

-- They have no items, and no bytes behind the last field.
no_items : (many : ℕ) (rows : List Row) → AreRecordsOf many rows → 0 ≡ item_count rows
no_items many [] are = refl
no_items many (Row.Object record_values ∷ rows) are = omega (arith, sum_by-cons items_of_row (Row.Object record_values) rows, no_items many rows are.1)
no_items many (_ ∷ rows) are = absurd are.0

none_past : (many field : ℕ) (rows : List Row) → many ≤ field → AreRecordsOf many rows → field_bytes field rows ≡ 0
none_past many field [] past are = refl
none_past many field (Row.Object record_values ∷ rows) past are =
    let none : part_bytes field (Row.Object record_values) ≡ 0 = ap (λ o. option_map_or value_bytes o 0) (slice_get_past record_values field (omega (arith, past, are.0))) in
    omega (arith, sum_by-cons (part_bytes field) (Row.Object record_values) rows, none, none_past many field rows past are.1)
none_past many field (_ ∷ rows) past are = absurd are.0

-- ---- sums over the first so many numbers

upto : (ℕ → ℕ) → ℕ → ℕ
upto part zero = 0
upto part (suc count) = upto part count + part count

upto_same : (one other : ℕ → ℕ) (count : ℕ) → ((k : ℕ) → k < count → one k ≡ other k) → upto one count ≡ upto other count
unfolding upto
upto_same one other zero same = refl
upto_same one other (suc count) same = omega (arith, upto_same one other count (λ k below. same k (omega (arith, below))), same count (omega arith))

upto_more : (one other : ℕ → ℕ) (count : ℕ) → upto (λ k. one k + other k) count ≡ upto one count + upto other count
unfolding upto
upto_more one other zero = refl
upto_more one other (suc count) = omega (arith, upto_more one other count)

upto_none : (count : ℕ) → upto (λ k. 0) count ≡ 0
unfolding upto
upto_none zero = refl
upto_none (suc count) = omega (arith, upto_none count)

upto_list : (numbers : List ℕ) (count : ℕ) → count ≤ length numbers → upto (λ k. get_or numbers k 0) count ≡ sum (take count numbers)
unfolding upto
upto_list numbers zero inside = refl
upto_list numbers (suc count) inside =
    let next : suc count ≡ count + 1 = omega arith in
    let more = sum_by_more (λ (n : ℕ). n) numbers count 0 (omega (arith, inside)) in
    let here : sum (take (suc count) numbers) ≡ sum (take (count + 1) numbers) = ap (λ n. sum (take n numbers)) next in
    omega (arith, upto_list numbers count (omega (arith, inside)), more, here)

upto_record : (record_values : List Value) (count : ℕ) → count ≤ length record_values → upto (λ k. option_map_or value_bytes (slice_get record_values k) 0) count ≡ sum_by value_bytes (take count record_values)
unfolding upto
upto_record record_values zero inside = refl
upto_record record_values (suc count) inside =
    let next : suc count ≡ count + 1 = omega arith in
    let more = sum_by_more value_bytes record_values count Value.Null (omega (arith, inside)) in
    let here : sum_by value_bytes (take (suc count) record_values) ≡ sum_by value_bytes (take (count + 1) record_values) = ap (λ n. sum_by value_bytes (take n record_values)) next in
    let part : option_map_or value_bytes (slice_get record_values count) 0 ≡ value_bytes (get_or record_values count Value.Null) = ap (λ o. option_map_or value_bytes o 0) (slice_get-get_or record_values count Value.Null (omega (arith, inside))) in
    omega (arith, upto_record record_values count (omega (arith, inside)), more, here, part)

-- The bytes of all rows are those of all fields.
bytes_by_fields : (many : ℕ) (rows : List Row) → AreRecordsOf many rows → upto (λ field. field_bytes field rows) many ≡ bytes_held rows
bytes_by_fields many [] are = upto_none many
bytes_by_fields many (Row.Object record_values ∷ rows) are =
    let row : Row = Row.Object record_values in
    let split = upto_same (λ field. field_bytes field (row ∷ rows)) (λ field. part_bytes field row + field_bytes field rows) many (λ field below. sum_by-cons (part_bytes field) row rows) in
    let parts = upto_more (λ field. part_bytes field row) (λ field. field_bytes field rows) many in
    let first = upto_record record_values many (omega (arith, are.0)) ∙ ap (sum_by value_bytes) (take_all many record_values (omega (arith, are.0))) in
    omega (arith, split, parts, first, bytes_by_fields many rows are.1, sum_by-cons row_bytes row rows)
bytes_by_fields many (_ ∷ rows) are = absurd are.0

-- ---- ends

ends_lower : (kind : FieldKind) (width low high : ℕ) → low ≤ high → EndFits kind width high → EndFits kind width low
ends_lower FieldKind.Text width low high below fits = omega (arith, below, fits)
ends_lower FieldKind.Bytes width low high below fits = omega (arith, below, fits)
ends_lower (FieldKind.Reference name) width low high below fits = tt
ends_lower FieldKind.Int width low high below fits = tt
ends_lower FieldKind.Long width low high below fits = tt
ends_lower FieldKind.Boolean width low high below fits = tt

-- A record fits where the elements of its fields hold its ends.
row_fits : (shape : Shape) (section : Section) (place : ℕ) (row : Row) (rows : List Row) → IsObject shape → IsReadable shape section → place < places_of section.max → Spells shape section place row
    → ((index : ℕ) (field : Field) → slice_get (shape_fields shape) index ≡ Some field → EndFits field.kind (slice_index section.widths index) (field_bytes index rows)) → HoldsRow shape section.widths rows row
row_fits (Shape.Object key fields) section place (Row.Object record_values) rows object readable low spells ends = λ index field value at_field at_value. (
    let inside = slice_get_within fields index field at_field in
    let is : field ≡ get_or fields index field = some_once field (get_or fields index field) (sym at_field ∙ slice_get-get_or fields index field inside) in
    let there = field_at fields section.widths section.first section.areas (sum section.widths) place 0 index field record_values spells inside is in
    let same : there.0 ≡ value = some_once there.0 value (sym there.1 ∙ at_value) in
    let wide = column_wide (Shape.Object key fields) section place index object readable low inside field is in
    subst (λ (v : Value). FitsWidth field.kind (slice_index section.widths index) (field_bytes index rows) v) same
    (value_fits field.kind (part_at section.first (sum section.widths) place (0 + sum (take index section.widths)) (get_or section.widths index 0) (area_of section.areas index)) (field_bytes index rows) there.0 wide
    (element_of-lt section.first (place * sum section.widths + (0 + sum (take index section.widths))) (get_or section.widths index 0)) there.2 (ends index field at_field)))
row_fits (Shape.Object key fields) section place _ rows object readable low spells ends = absurd spells
row_fits _ section place row rows object readable low spells ends = absurd object

module _ (shape : Shape) (section : Section) (object : IsObject shape) (readable : IsReadable shape section) (placed : HoldsNowhere (HasNoPlace section.live (places_of section.max)))
    (lengths : List ℕ) (long : length lengths ≡ length (shape_fields shape)) (are : AreLengths shape section lengths (length (shape_fields shape))) (fit : EndsFit (shape_fields shape) section.widths lengths (length (shape_fields shape)))
    (rows : RowMap) (is : SectionIs shape section rows) where
  exact : (field : ℕ) → field < length (shape_fields shape) → slice_index lengths field ≡ field_bytes field (values rows)
  exact field below =
      let some : Field = record { name = []; kind = FieldKind.Int } in
      let at = slice_get-get_or (shape_fields shape) field some below in
      omega (arith, (fit field (get_or (shape_fields shape) field some) below at).1, are rows is field below)

  as_many : length section.live ≡ length (values rows)
  as_many = sym (ap length is.live) ∙ length-map (entries rows) (λ e. e.0) ∙ sym (length-map (entries rows) (λ e. e.1))

  ends_held : (count index : ℕ) (field : Field) → slice_get (shape_fields shape) index ≡ Some field → EndFits field.kind (slice_index section.widths index) (field_bytes index (take count (values rows)))
  ends_held count index field at =
      let inside = slice_get_within (shape_fields shape) index field at in
      ends_lower field.kind (slice_index section.widths index) (field_bytes index (take count (values rows))) (slice_index lengths index)
      (omega (arith, exact index inside, sum_by-take-le (part_bytes index) (values rows) count)) (fit index field inside at).0

  front_held : (count : ℕ) → count ≤ length (values rows) → HoldsRows shape section.widths [] (take count (values rows))
  front_held zero inside = tt
  front_held (suc count) inside =
      let live = slice_get-get_or section.live count 0 (omega (arith, inside, as_many)) in
      let there = row_there shape section rows count (get_or section.live count 0) is live in
      let next : count + 1 ≡ suc count = omega arith in
      let front = front_more (values rows) count there.0 there.1 in
      let fits : HoldsRow shape section.widths (take (count + 1) (values rows)) there.0 =
      row_fits shape section (get_or section.live count 0) there.0 (take (count + 1) (values rows)) object readable (listed_below section section.live count (get_or section.live count 0) refl placed live) there.2 (ends_held (count + 1)) in
      subst (λ (n : ℕ). HoldsRows shape section.widths [] (take n (values rows))) next
      (subst (HoldsRows shape section.widths []) (sym front)
      (held_more shape section.widths [] (take count (values rows)) there.0 (front_held count (omega (arith, inside))) (subst (λ some. HoldsRow shape section.widths some there.0) front fits)))

  pub columns_laid : (bytes : ℕ) → bytes ≡ min (sum lengths) (2 ^ 64 - 1) → AreLaid shape section.widths (values rows) 0 lengths bytes
  columns_laid bytes total =
      let records = records_of shape section (entries rows) object is.spelled in
      let many = length (shape_fields shape) in
      let listed : upto (λ k. get_or lengths k 0) many ≡ sum lengths = upto_list lengths many (omega (arith, long)) ∙ ap sum (take_all many lengths (omega (arith, long))) in
      let same = upto_same (λ k. get_or lengths k 0) (λ field. field_bytes field (values rows)) many exact in
      record {
        held = subst (HoldsRows shape section.widths []) (take_all (length (values rows)) (values rows) (omega arith)) (front_held (length (values rows)) (omega arith));
        counted = no_items many (values rows) records;
        reached = λ field. elim (cases_lt field many) [
          | inl below ↦ exact field below
          | inr past ↦ get_or_past lengths field 0 (omega (arith, long, past)) ∙ sym (none_past many field (values rows) past records)
        ];
        total = omega (arith, total, listed, same, bytes_by_fields many (values rows) records);
      }

-- One field more whose element holds its end.
pub ends_more : (fields : List Field) (widths ends : List ℕ) (index : ℕ) (field : Field) → index < length fields → field ≡ get_or fields index field → EndsFit fields widths ends index
    → EndFits field.kind (get_or widths index 0) (get_or ends index 0) → get_or ends index 0 < 2 ^ 64 - 1 → EndsFit fields widths ends (index + 1)
ends_more fields widths ends index field inside is before fits small k other below at = elim (cases_lt k index) [
  | inl low ↦ before k other low at
  | inr high ↦ (
      let same : index ≡ k = omega (arith, below, high) in
      let there : slice_get fields index ≡ Some field = slice_get-get_or fields index field inside ∙ ap Some (sym is) in
      let one : field ≡ other = some_once field other (sym there ∙ ap (λ (n : ℕ). slice_get fields n) same ∙ at) in
      subst (λ (n : ℕ). EndFits other.kind (get_or widths n 0) (get_or ends n 0) × (get_or ends n 0 < 2 ^ 64 - 1)) same
      (subst (λ (f : Field). EndFits f.kind (get_or widths index 0) (get_or ends index 0)) one fits, small))
]

-- What is told by the parts that were lent is told of the section.
pub all_fit : (shape : Shape) (section : Section) (lengths : List ℕ) (fields : List Field) (widths ends : List ℕ) → fields ≡ shape_fields shape → widths ≡ section.widths → ends ≡ lengths
    → EndsFit fields widths ends (length fields) → EndsFit (shape_fields shape) section.widths lengths (length (shape_fields shape))
all_fit shape section lengths fields widths ends one two three fit =
    subst (λ (fs : List Field). EndsFit fs section.widths lengths (length fs)) one
    (subst (λ (w : List ℕ). EndsFit fields w lengths (length fields)) two (subst (λ (e : List ℕ). EndsFit fields widths e (length fields)) three fit))
