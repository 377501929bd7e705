-- Each section of a blob's type that agrees is seen in some way.
use Rattle.std.proofs.Common.{◌≡◌, ◌⊎◌, inl, inr, ℕ, suc, ◌+◌, ◌*◌, ◌/◌, ◌^◌, ◌<◌, ◌≤◌, true, false, List, [], ◌∷◌, length, sum, Option, None, Some, refl, sym, ap, subst, ◌∙◌, arith}
use Rattle.std.specs.Prelude.{All, IfSome, option_map, slice_get, unwrap_or}
use Rattle.std.specs.Str.{bytes_eq}
use Rattle.std.proofs.Math.Nat.{pow-le-pow_right}
use Rattle.std.proofs.lemmas.Bool.{cases_Bool}
use Rattle.std.proofs.lemmas.Nat.{pow_pos}
use Rattle.std.proofs.lemmas.Slice.Eq.{bytes_eq-Decides}
use Rattle.bit_array.specs.Element.{number_of, words_of}
use Rattle.bit_array.proofs.Elements.{element_of-lt}
use Rattle.schema_model.specs.declared.schema.Field.{Field}
use Rattle.schema_model.specs.declared.schema.FieldKind.{FieldKind}
use Rattle.schema_model.specs.declared.schema.Shape.{Shape}
use Rattle.schema_model.specs.Growth.{IsOneKind, KindsAgree, ShapesAgree}
use Rattle.schema_model.specs.Parts.{shape_fields}
use Rattle.type_rows.specs.declared.patch.PatchSection.{PatchSection}
use Rattle.seen_patches.specs.declared.column.Column.{Column}
use Rattle.seen_patches.specs.ByName.{item_named}
use Rattle.seen_patches.specs.Elements.{column_element, columns_of, elements_of}
use Rattle.seen_patches.specs.Nulls.{null_element, null_width}
use Rattle.seen_patches.specs.Seen.{IsColumned, IsSeen, seen_areas, seen_element, seen_elements, seen_width, seen_widths, shared_bits}
use Rattle.seen_patches.proofs.ColumnElements.{columns_widths, named_map}
use Rattle.seen_patches.proofs.Digits.{FitWidths, elements_back, number_fits, number_in, records_at, records_fit, records_from, words_are, words_from, words_long, words_number}
use Rattle.seen_patches.proofs.PutColumns.{all_get, width_of}

-- ---- elements that fit

one_fits : (words : List ℕ) (place : ℕ) (kind : FieldKind) (source : Option Column)
    → unwrap_or (option_map (column_element words place) source) (null_element kind) < 2 ^ unwrap_or (option_map width_of source) (null_width kind)
one_fits words place kind None = let some = pow_pos (null_width kind) in omega (arith, some)
one_fits words place kind (Some column) = element_of-lt words (place * column.size + column.before) column.width

field_fits : (theirs : List Field) (widths first : List ℕ) (place : ℕ) (field : Field) → seen_element theirs (elements_of widths first place) field < 2 ^ seen_width theirs widths field
field_fits theirs widths first place field =
    let columns = columns_of widths in
    let element : seen_element theirs (elements_of widths first place) field ≡ unwrap_or (option_map (column_element first place) (item_named theirs columns field.name)) (null_element field.kind) =
    ap (λ (o : Option ℕ). unwrap_or o (null_element field.kind)) (named_map (column_element first place) theirs columns field.name) in
    let width : seen_width theirs widths field ≡ unwrap_or (option_map width_of (item_named theirs columns field.name)) (null_width field.kind) =
    ap (λ (ws : List ℕ). seen_width theirs ws field) (sym (columns_widths (sum widths) 0 widths)) ∙ ap (λ (o : Option ℕ). unwrap_or o (null_width field.kind)) (named_map width_of theirs columns field.name) in
    subst (λ (n : ℕ). seen_element theirs (elements_of widths first place) field < 2 ^ n) (sym width)
    (subst (λ (n : ℕ). n < 2 ^ unwrap_or (option_map width_of (item_named theirs columns field.name)) (null_width field.kind)) (sym element) (one_fits first place field.kind (item_named theirs columns field.name)))

all_fit : (mine theirs : List Field) (widths first : List ℕ) (place : ℕ) → FitWidths (seen_widths mine theirs widths) (seen_elements mine theirs (elements_of widths first place))
all_fit [] theirs widths first place = tt
all_fit (field ∷ mine) theirs widths first place = (field_fits theirs widths first place field, all_fit mine theirs widths first place)

-- ---- the section

-- The elements of a record of the blob, as the number of the consumer's record.
abbrev record_seen : List Field → List Field → PatchSection → ℕ → ℕ
record_seen mine theirs raw place = number_in (seen_widths mine theirs raw.widths) (seen_elements mine theirs (elements_of raw.widths raw.first place))

-- The section with the consumer's columns.
abbrev with_columns : List Field → List Field → PatchSection → PatchSection
with_columns mine theirs raw = record {
  max = raw.max;
  widths = seen_widths mine theirs raw.widths;
  own = shared_bits mine theirs raw.widths;
  total = raw.total;
  first = words_from (words_of (length raw.added * sum (seen_widths mine theirs raw.widths))) (records_from (sum (seen_widths mine theirs raw.widths)) (record_seen mine theirs raw) (length raw.added));
  second = raw.second;
  areas = seen_areas mine theirs raw.areas;
  removed = raw.removed;
  added = raw.added;
}

columned : (mine theirs : List Field) (raw : PatchSection) → IsColumned mine theirs raw (with_columns mine theirs raw)
columned mine theirs raw =
    let widths = seen_widths mine theirs raw.widths in
    let size = sum widths in
    let places = length raw.added in
    let bits = places * size in
    let number = records_from size (record_seen mine theirs raw) places in
    let fit : (place : ℕ) → place < places → record_seen mine theirs raw place < 2 ^ size =
    λ place less. number_fits widths (seen_elements mine theirs (elements_of raw.widths raw.first place)) (all_fit mine theirs raw.widths raw.first place) in
    let below : number < 2 ^ bits = records_fit size (record_seen mine theirs raw) places fit in
    let room : 2 ^ bits ≤ 2 ^ (64 * words_of bits) = pow-le-pow_right (omega arith) (omega arith) in
    let held : number < 2 ^ (64 * words_of bits) = omega (arith, below, room) in
    let back : number_of (words_from (words_of bits) number) ≡ number = words_number (words_of bits) number held in
    record {
      max = refl;
      widths = refl;
      own = refl;
      total = refl;
      words = words_long (words_of bits) number;
      are = words_are (words_of bits) number;
      elements = λ place less.
          let (high, is) = records_at size (record_seen mine theirs raw) places place fit less in
          let from : place * size + 0 ≡ place * size = omega arith in
          elements_back (words_from (words_of bits) number) size place 0 high widths (seen_elements mine theirs (elements_of raw.widths raw.first place))
          (all_fit mine theirs raw.widths raw.first place)
          (ap (λ (n : ℕ). n / 2 ^ (place * size + 0)) back ∙ ap (λ (n : ℕ). number / 2 ^ n) from ∙ is);
      bits = subst (λ (n : ℕ). n < 2 ^ bits) (sym back) below;
      second = refl;
      areas = refl;
      removed = refl;
      added = refl;
    }

-- ---- whether the fields are the same

same_or_not : (mine theirs : List Field) → ((k : ℕ) (field other : Field) → slice_get mine k ≡ Some field → slice_get theirs k ≡ Some other → IsOneKind field other) → (mine ≡ theirs) ⊎ (mine ≡ theirs → ⊥)
same_or_not [] [] kinds = inl refl
same_or_not [] (other ∷ theirs) kinds = inr (λ same. absurd cc)
same_or_not (field ∷ mine) [] kinds = inr (λ same. absurd cc)
same_or_not (field ∷ mine) (other ∷ theirs) kinds =
    elim (cases_Bool (bytes_eq field.name other.name)) [
      | inl equal ↦
          let names = (bytes_eq-Decides field.name other.name).0 equal in
          let kind = kinds 0 field other refl refl names in
          let one : field ≡ other = λ i. record { name = names i; kind = kind i } in
          elim (same_or_not mine theirs (λ k f o at_f at_o. kinds (suc k) f o at_f at_o)) [
            | inl rest ↦ inl (λ i. one i ∷ rest i)
            | inr differ ↦ inr (λ same. differ (let rest : mine ≡ theirs = cc in rest))
          ]
      | inr unequal ↦
          inr
          (λ same.
          let first : field ≡ other = cc in
          let names = (bytes_eq-Decides field.name other.name).1 (ap (λ (f : Field). f.name) first) in
          let clash : true ≡ false = sym names ∙ unequal in
          absurd cc)
    ]

kinds_at : (mine theirs : List Field) → KindsAgree mine theirs → (k : ℕ) (field other : Field) → slice_get mine k ≡ Some field → slice_get theirs k ≡ Some other → IsOneKind field other
kinds_at mine theirs agree k field other at_field at_other =
    let row = subst (λ (o : Option Field). IfSome o (λ f. All (IsOneKind f) theirs)) at_field (all_get (λ (f : Field). All (IsOneKind f) theirs) mine k agree) in
    subst (λ (o : Option Field). IfSome o (IsOneKind field)) at_other (all_get (IsOneKind field) theirs k row)

seen_or_columned : (mine theirs : Shape) (raw : PatchSection) → (shape_fields mine ≡ shape_fields theirs) ⊎ (shape_fields mine ≡ shape_fields theirs → ⊥) → (seen : PatchSection) × IsSeen mine theirs raw seen
seen_or_columned mine theirs raw (inl same) = (raw, inl (same, refl))
seen_or_columned mine theirs raw (inr differ) = (with_columns (shape_fields mine) (shape_fields theirs) raw, inr (differ, columned (shape_fields mine) (shape_fields theirs) raw))

pub each_seen : (mine theirs : Shape) (raw : PatchSection) → ShapesAgree mine theirs → (seen : PatchSection) × IsSeen mine theirs raw seen
each_seen (Shape.Object key mine) (Shape.Object other theirs) raw agree =
    seen_or_columned (Shape.Object key mine) (Shape.Object other theirs) raw (same_or_not mine theirs (kinds_at mine theirs agree.1))
each_seen (Shape.Object key mine) (Shape.List element) raw agree = absurd (let same : Shape.Object key mine ≡ Shape.List element = agree in cc)
each_seen (Shape.Object key mine) (Shape.Set element) raw agree = absurd (let same : Shape.Object key mine ≡ Shape.Set element = agree in cc)
each_seen (Shape.Object key mine) (Shape.Map of to) raw agree = absurd (let same : Shape.Object key mine ≡ Shape.Map of to = agree in cc)
each_seen (Shape.List element) theirs raw agree = (raw, inl (ap shape_fields agree, refl))
each_seen (Shape.Set element) theirs raw agree = (raw, inl (ap shape_fields agree, refl))
each_seen (Shape.Map of to) theirs raw agree = (raw, inl (ap shape_fields agree, refl))
