-- Lemmas on the parts of a place: what a place packs its parts pack, and parts that pack the same make up a place that does.
use Rattle.std.proofs.Common.{◌≡◌, ℕ, zero, suc, ◌+◌, ◌-◌, ◌<◌, ◌≤◌, List, [], ◌∷◌, length, get_or, take, drop, refl, sym, ap, ◌∙◌, subst, arith, append-nil, Option, Some, None, inl, inr}
use Rattle.std.specs.Prelude.{if◌then◌else◌, map, sum, slice_get}
use Rattle.std.specs.Option.{option_to_list}
use Rattle.std.proofs.lemmas.Bool.{cases_Bool}
use Rattle.std.proofs.lemmas.List.{length-map}
use Rattle.row_model.specs.Areas.{area_of}
use Rattle.row_model.specs.Row.{is_least, stored_value, stored_row}
use Rattle.row_model.specs.declared.row.Row.{Row}
use Rattle.row_model.specs.declared.row.Value.{Value}
use Rattle.schema_model.specs.Parts.{shape_fields}
use Rattle.schema_model.specs.declared.schema.FieldKind.{FieldKind}
use Rattle.schema_model.specs.declared.schema.Field.{Field}
use Rattle.schema_model.specs.declared.schema.Shape.{Shape}
use Rattle.object_codec.specs.ObjectPlace.{part_at, parts_of, SpellsFields, SpellsObjectRow}
use Rattle.object_codec.specs.Packing.{HasBytes, IsGap, PacksPart, PacksPlace, values_of_place}
use Rattle.object_codec.specs.Part.{FieldPart, HasNullBit, IsSpan, SpellsBytes, SpellsText, SpellsValue, end_of, span_of}
use Rattle.object_codec.specs.Stored.{value_at, value_bytes, values_bytes, values_of_row}
use Rattle.object_codec.proofs.FieldParts.{spells_all, zip_all, zip_part}
use Rattle.object_codec.proofs.SameParts.{part_of}
use Rattle.record_copies.proofs.RecordBits.{value_moved}
use Rattle.record_copies.proofs.Copied.{row_spelled_at}
use Rattle.record_copies.proofs.Taken.{no_bytes, run_span}

-- ---- the values of a row

-- a value that is stored otherwise has no bytes
stored_bytes : (value : Value) → value_bytes (stored_value value) ≡ value_bytes value
stored_bytes (Value.Int number) = elim (cases_Bool (is_least 32 number)) [
  | inl at ↦ ap (λ b. value_bytes (if b then Value.Null else Value.Int number)) at
  | inr at ↦ ap (λ b. value_bytes (if b then Value.Null else Value.Int number)) at
]
stored_bytes (Value.Long number) = elim (cases_Bool (is_least 64 number)) [
  | inl at ↦ ap (λ b. value_bytes (if b then Value.Null else Value.Long number)) at
  | inr at ↦ ap (λ b. value_bytes (if b then Value.Null else Value.Long number)) at
]
stored_bytes _ = refl

-- a value among the stored ones is one that is stored
stored_there : (values : List Value) (k : ℕ) (value : Value) → slice_get (map stored_value values) k ≡ Some value → (v : Value) × (slice_get values k ≡ Some v) × (stored_value v ≡ value)
stored_there [] k value is = absurd cc
stored_there (v ∷ values) zero value is = (v, refl, (let same : stored_value v ≡ value = cc in same))
stored_there (v ∷ values) (suc k) value is = stored_there values k value is

-- the value that the part of a field gives
record Given (shape : Shape) (widths first : List ℕ) (areas : List (List ℕ)) (place : ℕ) (row : Row) (k : ℕ) (field : Field) : Type 0 where
  value : Value
  found : slice_get (values_of_row row) k ≡ Some value
  spelled : SpellsValue field.kind (part_at first (sum widths) place (0 + sum (take k widths)) (get_or widths k 0) (area_of areas k)) (stored_value value)

given : (shape : Shape) (widths first : List ℕ) (areas : List (List ℕ)) (place : ℕ) (row : Row) (k : ℕ) (field : Field) → length widths ≡ length (shape_fields shape) → length areas ≡ length (shape_fields shape)
    → SpellsObjectRow shape widths first areas place (stored_row row) → k < length (shape_fields shape) → field ≡ get_or (shape_fields shape) k field → Given shape widths first areas place row k field
given shape widths first areas place (Row.Object values) k field wide filled spelled inside is =
    let there = row_spelled_at shape widths first areas place (Row.Object (map stored_value values)) k field wide filled spelled inside is in
    let own = stored_there values k there.0 there.1 in
    record {
      value = own.0;
      found = own.1;
      spelled = subst (λ v. SpellsValue field.kind (part_at first (sum widths) place (0 + sum (take k widths)) (get_or widths k 0) (area_of areas k)) v) (sym own.2) there.2;
    }
given shape widths first areas place _ k field wide filled spelled inside is = absurd spelled

-- ---- what a place packs

-- its parts pack
pub place_part : (shape : Shape) (widths first : List ℕ) (areas : List (List ℕ)) (place : ℕ) (slot : Option Row) (k : ℕ) (field : Field) → length widths ≡ length (shape_fields shape) → length areas ≡ length (shape_fields shape)
    → PacksPlace shape widths first areas place slot → k < length (shape_fields shape) → field ≡ get_or (shape_fields shape) k field
    → PacksPart field.kind (part_at first (sum widths) place (0 + sum (take k widths)) (get_or widths k 0) (area_of areas k)) (slice_get (values_of_place slot) k)
place_part shape widths first areas place None k field wide filled packs inside is =
    zip_part (λ f part. IsGap f.kind part) (shape_fields shape) widths first areas (sum widths) place 0 k field wide filled packs inside is
place_part shape widths first areas place (Some row) k field wide filled packs inside is =
    let there = given shape widths first areas place row k field wide filled packs inside is in
    subst (λ o. PacksPart field.kind (part_at first (sum widths) place (0 + sum (take k widths)) (get_or widths k 0) (area_of areas k)) o) (sym there.found) there.spelled

spelled_long : (fields : List Field) (parts : List FieldPart) (values : List Value) → SpellsFields fields parts values → length values ≡ length fields
spelled_long [] [] [] h = refl
spelled_long [] [] (value ∷ values) h = absurd h
spelled_long [] (part ∷ parts) values h = absurd h
spelled_long (field ∷ fields) [] values h = absurd h
spelled_long (field ∷ fields) (part ∷ parts) [] h = absurd h
spelled_long (field ∷ fields) (part ∷ parts) (value ∷ values) h = ap suc (spelled_long fields parts values h.1)

-- where each part packs what the part of another place packs, the place packs the same
pub place_moved : (shape : Shape) (widths first first' : List ℕ) (areas areas' : List (List ℕ)) (place place' : ℕ) (slot : Option Row) → length widths ≡ length (shape_fields shape) → length areas ≡ length (shape_fields shape)
    → length areas' ≡ length (shape_fields shape)
    → ((k : ℕ) (field : Field) (value : Option Value) → k < length (shape_fields shape) → field ≡ get_or (shape_fields shape) k field
    → PacksPart field.kind (part_at first (sum widths) place (0 + sum (take k widths)) (get_or widths k 0) (area_of areas k)) value
    → PacksPart field.kind (part_at first' (sum widths) place' (0 + sum (take k widths)) (get_or widths k 0) (area_of areas' k)) value)
    → PacksPlace shape widths first areas place slot → PacksPlace shape widths first' areas' place' slot
place_moved shape widths first first' areas areas' place place' None wide filled filled' each packs =
    zip_all (λ f part. IsGap f.kind part) (shape_fields shape) widths first' areas' (sum widths) place' 0 wide filled'
    (λ k field inside is. each k field None inside is (place_part shape widths first areas place None k field wide filled packs inside is))
place_moved shape widths first first' areas areas' place place' (Some (Row.Object values)) wide filled filled' each packs =
    let long : length values ≡ length (shape_fields shape) = sym (length-map values stored_value) ∙ spelled_long (shape_fields shape) (parts_of widths first areas place) (map stored_value values) packs in
    spells_all (shape_fields shape) widths first' areas' (sum widths) place' 0 values wide filled' long
    (λ k field inside is. each k field (slice_get values k) inside is (place_part shape widths first areas place (Some (Row.Object values)) k field wide filled packs inside is))
place_moved shape widths first first' areas areas' place place' (Some _) wide filled filled' each packs = absurd packs

-- ---- the bytes of a part

-- the bytes from one offset up to another, which are those of a value
pub record Steps (from to : ℕ) (area run : List ℕ) : Type 0 where
  pub rises : from ≤ to
  pub inside : from ≤ length area → to ≤ length area
  pub bytes : run ≡ take (to - from) (drop from area)

no_step : (from to : ℕ) (area bytes : List ℕ) → to ≡ from → bytes ≡ [] → Steps from to area bytes
no_step from to area bytes same none = record {
  rises = omega (arith, same);
  inside = λ h. omega (arith, same, h);
  bytes = none ∙ ap (λ n. take n (drop from area)) (let e : 0 ≡ to - from = omega (arith, same) in e);
}

gap_is : (kind : FieldKind) (part : FieldPart) → HasBytes kind → IsGap kind part → part.element ≡ part.start
gap_is FieldKind.Text part has h = h
gap_is FieldKind.Bytes part has h = h
gap_is _ part has h = absurd has

-- from the start of a STRING or BYTES to its end
pub part_steps : (shape : Shape) (widths first : List ℕ) (areas : List (List ℕ)) (place : ℕ) (slot : Option Row) (k : ℕ) (field : Field) (part : FieldPart) → length widths ≡ length (shape_fields shape)
    → length areas ≡ length (shape_fields shape) → PacksPlace shape widths first areas place slot → k < length (shape_fields shape) → field ≡ get_or (shape_fields shape) k field → HasBytes field.kind
    → part ≡ part_at first (sum widths) place (0 + sum (take k widths)) (get_or widths k 0) (area_of areas k) → (part.element ≡ part.start → end_of part ≡ part.start)
    → Steps part.start (end_of part) part.area (values_bytes (value_at k (values_of_place slot)))
part_steps shape widths first areas place None k field part wide filled packs inside is has part_is gap =
    let h = place_part shape widths first areas place None k field wide filled packs inside is in
    no_step part.start (end_of part) part.area [] (gap (gap_is field.kind part has (subst (λ p. IsGap field.kind p) (sym part_is) h))) refl
part_steps shape widths first areas place (Some row) k field part wide filled packs inside is has part_is gap =
    let there = given shape widths first areas place row k field wide filled packs inside is in
    let spelled = subst (λ p. SpellsValue field.kind p (stored_value there.value)) (sym part_is) there.spelled in
    let span = run_span field.kind part (stored_value there.value) has spelled in
    record {
      rises = span.0.rises;
      inside = λ h. span.0.inside;
      bytes = ap (λ o. values_bytes (option_to_list o)) there.found ∙ append-nil (value_bytes there.value) ∙ sym (stored_bytes there.value) ∙ sym span.1;
    }

-- a field of another kind has no bytes
pub no_part_bytes : (shape : Shape) (widths first : List ℕ) (areas : List (List ℕ)) (place : ℕ) (slot : Option Row) (k : ℕ) (field : Field) → length widths ≡ length (shape_fields shape)
    → length areas ≡ length (shape_fields shape) → PacksPlace shape widths first areas place slot → k < length (shape_fields shape) → field ≡ get_or (shape_fields shape) k field → (HasBytes field.kind → ⊥)
    → values_bytes (value_at k (values_of_place slot)) ≡ []
no_part_bytes shape widths first areas place None k field wide filled packs inside is fixed = refl
no_part_bytes shape widths first areas place (Some row) k field wide filled packs inside is fixed =
    let there = given shape widths first areas place row k field wide filled packs inside is in
    ap (λ o. values_bytes (option_to_list o)) there.found ∙ append-nil (value_bytes there.value) ∙ sym (stored_bytes there.value)
    ∙ no_bytes field.kind (part_at first (sum widths) place (0 + sum (take k widths)) (get_or widths k 0) (area_of areas k)) (stored_value there.value) fixed there.spelled

-- ---- parts that pack the same

-- two parts have the same null bit and the same bytes, or both are those of a place without a row
pub record HaveSameRun (part other : FieldPart) : Type 0 where
  pub null : HasNullBit part → HasNullBit other
  pub some : HasNullBit other → HasNullBit part
  pub span : IsSpan part → IsSpan other × (span_of other ≡ span_of part)
  pub gap : part.element ≡ part.start → other.element ≡ other.start

text_moved : (part other : FieldPart) (value : Value) → HaveSameRun part other → SpellsText part value → SpellsText other value
text_moved part other Value.Null same h = ((same.span h.0).0, same.null h.1)
text_moved part other (Value.Text units) same h =
    let span = same.span h.0 in
    (span.0, λ null. h.1 (same.some null), (h.2.0, span.1 ∙ h.2.1))
text_moved part other _ same h = absurd h

bytes_moved : (part other : FieldPart) (value : Value) → HaveSameRun part other → SpellsBytes part value → SpellsBytes other value
bytes_moved part other Value.Null same h = ((same.span h.0).0, same.null h.1)
bytes_moved part other (Value.Bytes bytes) same h =
    let span = same.span h.0 in
    (span.0, λ null. h.1 (same.some null), h.2 ∙ sym span.1)
bytes_moved part other _ same h = absurd h

pub run_part : (kind : FieldKind) (part other : FieldPart) (value : Option Value) → HasBytes kind → HaveSameRun part other → PacksPart kind part value → PacksPart kind other value
run_part FieldKind.Text part other None has same h = same.gap h
run_part FieldKind.Bytes part other None has same h = same.gap h
run_part _ part other None has same h = absurd has
run_part FieldKind.Text part other (Some value) has same h = text_moved part other (stored_value value) same h
run_part FieldKind.Bytes part other (Some value) has same h = bytes_moved part other (stored_value value) same h
run_part _ part other (Some value) has same h = absurd has

fixed_gap : (kind : FieldKind) (part other : FieldPart) → (HasBytes kind → ⊥) → part.element ≡ other.element → IsGap kind part → IsGap kind other
fixed_gap FieldKind.Text part other fixed same h = absurd (fixed tt)
fixed_gap FieldKind.Bytes part other fixed same h = absurd (fixed tt)
fixed_gap _ part other fixed same h = sym same ∙ h

-- a part without bytes is told by its element
pub fixed_part : (kind : FieldKind) (width element element' start start' : ℕ) (area area' : List ℕ) (value : Option Value) → (HasBytes kind → ⊥) → element ≡ element' → PacksPart kind (part_of width element start area) value
    → PacksPart kind (part_of width element' start' area') value
fixed_part kind width element element' start start' area area' None fixed same h = fixed_gap kind (part_of width element start area) (part_of width element' start' area') fixed same h
fixed_part kind width element element' start start' area area' (Some value) fixed same h = value_moved kind width element element' start start' area area' (stored_value value) fixed same h
