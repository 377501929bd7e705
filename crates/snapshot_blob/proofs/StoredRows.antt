-- The rows of a snapshot hold no least INT or LONG: the numbers that would spell one are null.
use Rattle.std.proofs.Common.{◌≡◌, ℕ, zero, suc, ◌+◌, ◌*◌, ◌/◌, ◌%◌, ◌-◌, ◌^◌, ◌<◌, ◌≤◌, ◌==◌, Bool, true, false, cond, List, [], ◌∷◌, map, length, Option, Some, refl, sym, ap, ◌∙◌, subst, inl, inr, arith}
use Rattle.std.specs.Prelude.{pos, negsuc, sum}
use Rattle.std.specs.List.{All, AllZip}
use Rattle.std.specs.Ordering.{is_eq, nat_cmp}
use Rattle.std.specs.FinMap.{find, entries, get, get-entries}
use Rattle.std.proofs.Math.Pow.{pow_mono}
use Rattle.std.proofs.lemmas.Bool.{cases_lt, eqb-false, ne_eqb}
use Rattle.std.proofs.lemmas.List.Elements.{All-cons, All-head, All-nil, All-tail}
use Rattle.hol_varint.specs.Zigzag.{unzigzag}
use Rattle.bit_array.proofs.Elements.{element_of-lt}
use Rattle.schema_model.specs.declared.schema.Field.{Field}
use Rattle.schema_model.specs.declared.schema.FieldKind.{FieldKind}
use Rattle.schema_model.specs.declared.schema.Schema.{Schema}
use Rattle.schema_model.specs.declared.schema.Shape.{Shape}
use Rattle.row_model.specs.declared.row.Row.{Row}
use Rattle.row_model.specs.declared.row.Value.{Value}
use Rattle.row_model.specs.Row.{is_least, stored_row, stored_value}
use Rattle.row_model.specs.Table.{RowMap, EachRow, row_at}
use Rattle.object_codec.specs.ObjectPlace.{SpellsFields, part_at, parts_from}
use Rattle.object_codec.specs.Part.{FieldPart, SpellsValue}
use Rattle.type_rows.specs.declared.section.Section.{Section}
use Rattle.type_rows.specs.Loads.{IsSpelledIn, SectionIs}
use Rattle.type_rows.specs.WellFormed.{IsWellFormed, IsWidth}
use Rattle.type_rows.proofs.Places.{narrow_one}
use Rattle.type_state.specs.State.{Half, State}
use Rattle.type_state.specs.Views.{next_halves, table_of}
use Rattle.blob_grammar.specs.Form.{◌>>=◌, nothing, judged, repeated, counted, each_of}
use Rattle.blob_sections.specs.declared.section.PackedRows.{PackedRows}
use Rattle.blob_sections.specs.Section.{packed_records, packed_rows}
use Rattle.blob_sections.specs.Width.{field_width, field_widths}
use Rattle.blob_frame.specs.declared.header.Header.{Header}
use Rattle.snapshot_blob.specs.declared.part.TypePart.{TypePart}
use Rattle.snapshot_blob.specs.Parts.{body, section_of, type_part}
use Rattle.snapshot_blob.specs.Snapshot.{SnapshotIs}
use Rattle.snapshot_blob.specs.Stated.{IsLoadedFrom, TypeIs, schemas_of}
use Rattle.snapshot_blob.proofs.Whole.{split}

-- ---- one value

int_kept : (number : ℕ) → number ≤ 2 ^ 32 - 2 → is_least 32 (unzigzag number) ≡ false
int_kept number small = by_parity (number % 2 == 0) refl
  where
    by_parity : (even : Bool) → (number % 2 == 0) ≡ even → is_least 32 (cond even (pos (number / 2)) (negsuc (number / 2))) ≡ false
    by_parity true is = refl
    by_parity false is = ne_eqb (number / 2) (2 ^ 31 - 1) (λ half. eqb-false (number % 2) 0 is (omega arith))

long_kept : (number : ℕ) → number < 2 ^ 64 - 1 → is_least 64 (unzigzag number) ≡ false
long_kept number small = by_parity (number % 2 == 0) refl
  where
    by_parity : (even : Bool) → (number % 2 == 0) ≡ even → is_least 64 (cond even (pos (number / 2)) (negsuc (number / 2))) ≡ false
    by_parity true is = refl
    by_parity false is = ne_eqb (number / 2) (2 ^ 63 - 1) (λ half. eqb-false (number % 2) 0 is (omega arith))

-- a number of few bits that is not all ones
below_ones : (width number : ℕ) → width ≤ 64 → number < 2 ^ width → (number ≡ 2 ^ width - 1 → ⊥) → number < 2 ^ 64 - 1
below_ones width number narrow low other =
    elim (cases_lt (number + 1) (2 ^ width)) [
      | inl more ↦ let top : 2 ^ width ≤ 2 ^ 64 = pow_mono {i = width} {j = 64} narrow in omega (arith, more, top)
      | inr ones ↦ absurd (other (omega (arith, ones, low)))
    ]

value_kept : (kind : FieldKind) (part : FieldPart) (value : Value) → part.width ≤ 64 → part.element < 2 ^ part.width → SpellsValue kind part value → stored_value value ≡ value
value_kept (FieldKind.Reference name) part Value.Null narrow low h = refl
value_kept (FieldKind.Reference name) part (Value.Ref ordinal) narrow low h = refl
value_kept FieldKind.Int part Value.Null narrow low h = refl
value_kept FieldKind.Int part (Value.Int number) narrow low h =
    ap (λ b. cond b Value.Null (Value.Int number)) (ap (is_least 32) h.2 ∙ int_kept part.element h.1)
value_kept FieldKind.Long part Value.Null narrow low h = refl
value_kept FieldKind.Long part (Value.Long number) narrow low h =
    ap (λ b. cond b Value.Null (Value.Long number)) (ap (is_least 64) h.1 ∙ long_kept part.element (below_ones part.width part.element narrow low h.0))
value_kept FieldKind.Boolean part Value.Null narrow low h = refl
value_kept FieldKind.Boolean part (Value.Bool flag) narrow low h = refl
value_kept FieldKind.Text part Value.Null narrow low h = refl
value_kept FieldKind.Text part (Value.Text units) narrow low h = refl
value_kept FieldKind.Bytes part Value.Null narrow low h = refl
value_kept FieldKind.Bytes part (Value.Bytes bytes) narrow low h = refl
value_kept _ part _ narrow low h = absurd h

-- ---- one row

abbrev AreNarrow : List Field → List ℕ → Type 0
AreNarrow fields widths = AllZip (λ field width. width ≤ 64) fields widths

values_kept : (fields : List Field) (widths first : List ℕ) (size place before : ℕ) (areas : List (List ℕ)) (values : List Value) → AreNarrow fields widths
    → SpellsFields fields (parts_from first size place before widths areas) values → map stored_value values ≡ values
values_kept (f ∷ fs) (w ∷ ws) first size place before (a ∷ areas) (v ∷ vs) narrow h =
    let one = value_kept f.kind (part_at first size place before w a) v narrow.0 (element_of-lt first (place * size + before) w) h.0 in
    let rest = values_kept fs ws first size place (before + w) areas vs narrow.1 h.1 in
    λ i. one i ∷ rest i
values_kept (f ∷ fs) (w ∷ ws) first size place before [] values narrow h = absurd h
values_kept (f ∷ fs) (w ∷ ws) first size place before (a ∷ areas) [] narrow h = absurd h
values_kept (f ∷ fs) [] first size place before areas values narrow h = absurd narrow
values_kept [] (w ∷ ws) first size place before areas values narrow h = absurd narrow
values_kept [] [] first size place before areas (v ∷ vs) narrow h = absurd h
values_kept [] [] first size place before areas [] narrow h = refl

-- the widths of an OBJECT are 64 at most
abbrev IsNarrow : Shape → List ℕ → Type 0
IsNarrow (Shape.Object key fields) widths = AreNarrow fields widths
IsNarrow _ widths = Unit {0}

row_kept : (shape : Shape) (section : Section) (o : ℕ) (row : Row) → IsNarrow shape section.widths → IsSpelledIn shape section (o, row) → stored_row row ≡ row
row_kept (Shape.Object key fields) section o (Row.Object values) narrow h = ap Row.Object (values_kept fields section.widths section.first (sum section.widths) o 0 section.areas values narrow h)
row_kept (Shape.Object key fields) section o _ narrow h = absurd h
row_kept (Shape.List element) section o (Row.List ordinals) narrow h = refl
row_kept (Shape.List element) section o _ narrow h = absurd h
row_kept (Shape.Set element) section o (Row.Set ordinals) narrow h = refl
row_kept (Shape.Set element) section o _ narrow h = absurd h.1
row_kept (Shape.Map key value) section o (Row.Map pairs) narrow h = refl
row_kept (Shape.Map key value) section o _ narrow h = absurd h.1

-- a row that is found stands among the entries
found_in : (P : ℕ × Row → Type 0) (o : ℕ) (es : List (ℕ × Row)) (row : Row) → find nat_cmp o es ≡ Some row → All P es → (key : ℕ) × P (key, row)
found_in P o [] row is all = absurd cc
found_in P o (e ∷ es) row is all =
    elim (is_eq (nat_cmp o e.0)) as (λ b. cond b (Some e.1) (find nat_cmp o es) ≡ Some row → (key : ℕ) × P (key, row)) [
      | true ↦ λ same. let value : e.1 ≡ row = cc in (e.0, subst (λ r. P (e.0, r)) value (All-head P e es all))
      | false ↦ λ same. found_in P o es row same (All-tail P e es all)
    ] is

section_kept : (shape : Shape) (section : Section) (rows : RowMap) (o : ℕ) (row : Row) → IsNarrow shape section.widths → SectionIs shape section rows → get rows o ≡ Some row → stored_row row ≡ row
section_kept shape section rows o row narrow is at =
    let entry = found_in (IsSpelledIn shape section) o (entries rows) row (sym (get-entries rows o) ∙ at) is.spelled in
    row_kept shape section entry.0 row narrow entry.1

-- ---- the widths that a blob states

width_narrow : (max : Option ℕ) (field : Field) (blob : List ℕ) (at next width : ℕ) → (field_width max field.kind).Stands blob at width next → width ≤ 64
unfolding field_width judged
width_narrow max field blob at next width (number, stands, means) = subst (λ n. n ≤ 64) (sym means.0) (narrow_one max field number means.1)

each_narrow : (max : Option ℕ) (fields : List Field) (blob : List ℕ) (at next : ℕ) (widths : List ℕ) → (each_of (λ (field : Field). field_width max field.kind) fields).Stands blob at widths next → AreNarrow fields widths
unfolding each_of ◌>>=◌ nothing
each_narrow max [] blob at next widths is = subst (AreNarrow []) (sym is.0) tt
each_narrow max (field ∷ fields) blob at next widths (width, mid, here, (rest, end, behind, is)) =
    subst (AreNarrow (field ∷ fields)) (sym is.0) (width_narrow max field blob at mid width here, each_narrow max fields blob mid end rest behind)

widths_narrow : (shape : Shape) (max : Option ℕ) (blob : List ℕ) (at next : ℕ) (rows : PackedRows) → (packed_rows shape max).Stands blob at rows next → IsNarrow shape rows.widths
unfolding packed_rows packed_records field_widths ◌>>=◌ nothing
widths_narrow (Shape.Object key fields) max blob at next rows (widths, mid, stands, (records, m, first, (areas, n, bytes, is))) =
    subst (AreNarrow fields) (ap (λ (rows : PackedRows). rows.widths) (sym is.0)) (each_narrow max fields blob at mid widths stands)
widths_narrow (Shape.List element) max blob at next rows stands = tt
widths_narrow (Shape.Set element) max blob at next rows stands = tt
widths_narrow (Shape.Map key value) max blob at next rows stands = tt

section_narrow : (shape : Shape) (blob : List ℕ) (at next : ℕ) (section : Section) → (section_of shape).Stands blob at section next → IsNarrow shape section.widths
unfolding section_of ◌>>=◌ nothing
section_narrow shape blob at next section (max, m, first, (rows, n, stands, (live, k, last, is))) =
    subst (IsNarrow shape) (ap (λ (s : Section). s.widths) (sym is.0)) (widths_narrow shape max blob m n rows stands)

abbrev IsNarrowPart : TypePart → Type 0
IsNarrowPart part = IsNarrow part.schema.shape part.section.widths

part_narrow : (blob : List ℕ) (at next : ℕ) (part : TypePart) → type_part.Stands blob at part next → IsNarrowPart part
unfolding type_part ◌>>=◌ nothing
part_narrow blob at next part (head, m, first, (rows, n, stands, is)) = subst IsNarrowPart (sym is.0) (section_narrow head.schema.shape blob m n rows stands)

parts_narrow : (count : ℕ) (blob : List ℕ) (at next : ℕ) (parts : List TypePart) → (repeated count type_part).Stands blob at parts next → All IsNarrowPart parts
unfolding repeated ◌>>=◌ nothing
parts_narrow zero blob at next parts is = subst (All IsNarrowPart) (sym is.0) (All-nil IsNarrowPart)
parts_narrow (suc count) blob at next parts (part, mid, here, (rest, end, behind, is)) =
    subst (All IsNarrowPart) (sym is.0) (All-cons IsNarrowPart part rest (part_narrow blob at mid part here) (parts_narrow count blob mid end rest behind))

body_narrow : (blob : List ℕ) (at next : ℕ) (parts : List TypePart) → body.Stands blob at parts next → All IsNarrowPart parts
unfolding body counted ◌>>=◌ nothing
body_narrow blob at next parts (all, m, (count, n, number, stands), (last, k, end, is)) = subst (All IsNarrowPart) (sym is.0) (parts_narrow count blob n m all stands)

-- ---- the rows of a snapshot

types_kept : (parts : List TypePart) (halves : List Half) → All IsNarrowPart parts → AllZip TypeIs parts halves → EachRow (schemas_of parts) (table_of halves) (λ schema row. stored_row row ≡ row)
types_kept [] halves narrow are type_index ordinal schema row is at = absurd cc
types_kept (part ∷ parts) [] narrow are type_index ordinal schema row is at = absurd are
types_kept (part ∷ parts) (half ∷ halves) narrow are zero ordinal schema row is at =
    section_kept part.schema.shape part.section half.rows ordinal row (All-head IsNarrowPart part parts narrow) are.0.rows at
types_kept (part ∷ parts) (half ∷ halves) narrow are (suc type_index) ordinal schema row is at =
    types_kept parts halves (All-tail IsNarrowPart part parts narrow) are.1 type_index ordinal schema row is at

pub stored_rows : (blob : List ℕ) (head : Header) (parts : List TypePart) (schemas : List Schema) (halves : List Half) → SnapshotIs blob head parts schemas halves
    → EachRow schemas (table_of halves) (λ schema row. stored_row row ≡ row)
stored_rows blob head parts schemas halves is =
    let items = split blob head parts (length blob) is.items in
    subst (λ (ss : List Schema). EachRow ss (table_of halves) (λ schema row. stored_row row ≡ row)) is.state.named
    (types_kept parts halves (body_narrow blob items.0 (length blob) parts items.2) is.state.types)

-- ---- the rows that were loaded

fields_narrow : (max : Option ℕ) (fields : List Field) (widths : List ℕ) → AllZip (λ (field : Field) width. IsWidth max field.kind width) fields widths → AreNarrow fields widths
fields_narrow max [] [] wide = tt
fields_narrow max [] (width ∷ widths) wide = absurd wide
fields_narrow max (field ∷ fields) [] wide = absurd wide
fields_narrow max (field ∷ fields) (width ∷ widths) wide = (narrow_one max field width wide.0, fields_narrow max fields widths wide.1)

well_narrow : (shape : Shape) (section : Section) → IsWellFormed shape section → IsNarrow shape section.widths
well_narrow (Shape.Object key fields) section well = fields_narrow section.max fields section.widths well.wide
well_narrow (Shape.List element) section well = tt
well_narrow (Shape.Set element) section well = tt
well_narrow (Shape.Map key value) section well = tt

pub loaded_stored : (parts : List TypePart) (states : List State) → AllZip IsLoadedFrom parts states → (type_index ordinal : ℕ) (row : Row) → row_at (table_of (next_halves states)) type_index ordinal ≡ Some row
    → stored_row row ≡ row
loaded_stored [] [] loaded type_index ordinal row at = absurd cc
loaded_stored [] (state ∷ states) loaded type_index ordinal row at = absurd loaded
loaded_stored (part ∷ parts) [] loaded type_index ordinal row at = absurd loaded
loaded_stored (part ∷ parts) (state ∷ states) loaded zero ordinal row at =
    section_kept part.schema.shape part.section state.other.rows ordinal row (well_narrow part.schema.shape part.section loaded.0.readable.well) loaded.0.loads.is at
loaded_stored (part ∷ parts) (state ∷ states) loaded (suc type_index) ordinal row at = loaded_stored parts states loaded.1 type_index ordinal row at
