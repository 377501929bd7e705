-- Lemmas on the bits of records: what follows for a place from the bits of its record, and what is kept outside of a run.
use Rattle.std.proofs.Common.{◌≡◌, ℕ, zero, suc, ◌+◌, ◌*◌, ◌/◌, ◌%◌, ◌^◌, ◌<◌, ◌≤◌, List, [], ◌∷◌, length, get_or, take, sym, ap, ◌∙◌, subst, arith, None}
use Rattle.std.specs.Prelude.{sum}
use Rattle.std.specs.List.{AllZip}
use Rattle.std.proofs.Math.Nat.{zero-div, zero-mod}
use Rattle.std.proofs.lemmas.List.{take_all}
use Rattle.std.proofs.lemmas.List.Sums.{sum_by-cons, sum_by_more}
use Rattle.std.proofs.lemmas.Nat.{shr-shr, mod-pow-add}
use Rattle.bit_array.specs.Element.{number_of, element_of}
use Rattle.bit_array.proofs.Elements.{field_within, element_of_no_width}
use Rattle.schema_model.specs.Parts.{shape_fields}
use Rattle.schema_model.specs.declared.schema.FieldKind.{FieldKind}
use Rattle.schema_model.specs.declared.schema.Field.{Field}
use Rattle.schema_model.specs.declared.schema.Shape.{Shape}
use Rattle.row_model.specs.declared.row.Row.{Row}
use Rattle.row_model.specs.declared.row.Value.{Value}
use Rattle.object_codec.specs.ObjectPlace.{element_at, start_at, parts_from, SpellsFields, SpellsObjectRow}
use Rattle.object_codec.specs.Packing.{HasBytes, IsGap, PacksPlace}
use Rattle.object_codec.specs.Part.{SpellsInt, SpellsLong, SpellsReference, SpellsBoolean, SpellsValue}
use Rattle.object_codec.proofs.SameParts.{part_of}
use Rattle.record_copies.specs.Fixed.{AreFixed, record_at, HaveSameElement}

pub sum-cons : (width : ℕ) (widths : List ℕ) → sum (width ∷ widths) ≡ width + sum widths
sum-cons width widths = sum_by-cons (λ (w : ℕ). w) width widths

-- an element within a longer one
pub element_within : (words : List ℕ) (at len i v : ℕ) → i + v ≤ len → element_of words (at + i) v ≡ element_of words at len / 2 ^ i % 2 ^ v
unfolding element_of
element_within words at len i v inside =
    ap (λ n. n % 2 ^ v) (sym (shr-shr (number_of words) at i)) ∙ field_within (number_of words / 2 ^ at) len i v inside

-- where two long elements are the same, so is each within them
pub same_within : (a b : List ℕ) (at at' len i v : ℕ) → element_of a at len ≡ element_of b at' len → i + v ≤ len → element_of a (at + i) v ≡ element_of b (at' + i) v
same_within a b at at' len i v same inside = element_within a at len i v inside ∙ ap (λ n. n / 2 ^ i % 2 ^ v) same ∙ sym (element_within b at' len i v inside)

-- nothing is within a long element that is 0
pub none_within : (words : List ℕ) (at len i v : ℕ) → element_of words at len ≡ 0 → i + v ≤ len → element_of words (at + i) v ≡ 0
none_within words at len i v none inside =
    element_within words at len i v inside ∙ ap (λ n. n / 2 ^ i % 2 ^ v) none ∙ ap (λ n. n % 2 ^ v) (zero-div (2 ^ i)) ∙ zero-mod (2 ^ v)

-- ---- a record is its fields

-- two elements side by side as one
element_of_both : (words : List ℕ) (at low high : ℕ) → element_of words at (low + high) ≡ element_of words (at + low) high * 2 ^ low + element_of words at low
unfolding element_of
element_of_both words at low high =
    let turned : low + high ≡ high + low = omega arith in
    ap (λ k. number_of words / 2 ^ at % 2 ^ k) turned
    ∙ mod-pow-add (number_of words / 2 ^ at) high low
    ∙ ap (λ k. k % 2 ^ high * 2 ^ low + number_of words / 2 ^ at % 2 ^ low) (shr-shr (number_of words) at low)

same_both : (a b : List ℕ) (at at' low high : ℕ) → element_of a at low ≡ element_of b at' low → element_of a (at + low) high ≡ element_of b (at' + low) high → element_of a at (low + high) ≡ element_of b at' (low + high)
same_both a b at at' low high first second =
    element_of_both a at low high
    ∙ ap (λ e. e * 2 ^ low + element_of a at low) second
    ∙ ap (λ e. element_of b (at' + low) high * 2 ^ low + e) first
    ∙ sym (element_of_both b at' low high)

-- the first fields of two records have the same elements
same_front : (widths first first' : List ℕ) (place place' count : ℕ) → count ≤ length widths → ((k : ℕ) → k < length widths → HaveSameElement widths first first' place place' k)
    → element_of first (place * sum widths) (sum (take count widths)) ≡ element_of first' (place' * sum widths) (sum (take count widths))
same_front widths first first' place place' zero within same = element_of_no_width first (place * sum widths) ∙ sym (element_of_no_width first' (place' * sum widths))
same_front widths first first' place place' (suc count) within same =
    let more : sum (take (count + 1) widths) ≡ sum (take count widths) + get_or widths count 0 = sum_by_more (λ w. w) widths count 0 (omega arith) in
    let next : suc count ≡ count + 1 = omega arith in
    subst (λ (n : ℕ). element_of first (place * sum widths) (sum (take n widths)) ≡ element_of first' (place' * sum widths) (sum (take n widths))) (sym next)
    (subst (λ (w : ℕ). element_of first (place * sum widths) w ≡ element_of first' (place' * sum widths) w) (sym more)
    (same_both first first' (place * sum widths) (place' * sum widths) (sum (take count widths)) (get_or widths count 0) (same_front widths first first' place place' count (omega arith) same) (same count (omega arith))))

pub same_record : (widths first first' : List ℕ) (place place' : ℕ) → ((k : ℕ) → k < length widths → HaveSameElement widths first first' place place' k) → record_at widths first place ≡ record_at widths first' place'
same_record widths first first' place place' same =
    subst (λ (w : ℕ). element_of first (place * sum widths) w ≡ element_of first' (place' * sum widths) w) (ap (λ (ws : List ℕ). sum ws) (take_all (length widths) widths (omega arith)))
    (same_front widths first first' place place' (length widths) (omega arith) same)

-- ---- a place is what its bits are

-- the value of a field without variable bytes depends on its element alone
pub value_moved : (kind : FieldKind) (width element element' start start' : ℕ) (area area' : List ℕ) (value : Value) → (HasBytes kind → ⊥) → element ≡ element'
    → SpellsValue kind (part_of width element start area) value → SpellsValue kind (part_of width element' start' area') value
value_moved (FieldKind.Reference name) width element element' start start' area area' value fixed same h = subst (λ (e : ℕ). SpellsReference width e value) same h
value_moved FieldKind.Int width element element' start start' area area' value fixed same h = subst (λ (e : ℕ). SpellsInt width e value) same h
value_moved FieldKind.Long width element element' start start' area area' value fixed same h = subst (λ (e : ℕ). SpellsLong width e value) same h
value_moved FieldKind.Boolean width element element' start start' area area' value fixed same h = subst (λ (e : ℕ). SpellsBoolean e value) same h
value_moved FieldKind.Text width element element' start start' area area' value fixed same h = absurd (fixed tt)
value_moved FieldKind.Bytes width element element' start start' area area' value fixed same h = absurd (fixed tt)

gap_moved : (kind : FieldKind) (width element element' start start' : ℕ) (area area' : List ℕ) → (HasBytes kind → ⊥) → element ≡ element'
    → IsGap kind (part_of width element start area) → IsGap kind (part_of width element' start' area')
gap_moved FieldKind.Text width element element' start start' area area' fixed same h = absurd (fixed tt)
gap_moved FieldKind.Bytes width element element' start start' area area' fixed same h = absurd (fixed tt)
gap_moved _ width element element' start start' area area' fixed same h = sym same ∙ h

-- the records of two places, of this size, have the same bits
abbrev SameBits : List ℕ → List ℕ → ℕ → ℕ → ℕ → Type 0
SameBits first first' size place place' = element_of first (place * size) size ≡ element_of first' (place' * size) size

first_fixed : (field : Field) (fields : List Field) → AreFixed (field ∷ fields) → HasBytes field.kind → ⊥
first_fixed field fields fixed = fixed 0 field (omega arith)

rest_fixed : (field : Field) (fields : List Field) → AreFixed (field ∷ fields) → AreFixed fields
rest_fixed field fields fixed = λ k d below. fixed (suc k) d (omega arith)

fields_moved : (fields : List Field) (widths first first' : List ℕ) (areas areas' : List (List ℕ)) (size place place' before : ℕ) (values : List Value) → AreFixed fields → length areas ≡ length areas'
    → SameBits first first' size place place' → before + sum widths ≤ size
    → SpellsFields fields (parts_from first size place before widths areas) values → SpellsFields fields (parts_from first' size place' before widths areas') values
fields_moved fields [] first first' areas areas' size place place' before values fixed long same within h = h
fields_moved fields (width ∷ widths) first first' [] [] size place place' before values fixed long same within h = h
fields_moved fields (width ∷ widths) first first' [] (area' ∷ areas') size place place' before values fixed long same within h = absurd (omega arith)
fields_moved fields (width ∷ widths) first first' (area ∷ areas) [] size place place' before values fixed long same within h = absurd (omega arith)
fields_moved [] (width ∷ widths) first first' (area ∷ areas) (area' ∷ areas') size place place' before values fixed long same within h = absurd h
fields_moved (field ∷ fields) (width ∷ widths) first first' (area ∷ areas) (area' ∷ areas') size place place' before [] fixed long same within h = absurd h
fields_moved (field ∷ fields) (width ∷ widths) first first' (area ∷ areas) (area' ∷ areas') size place place' before (value ∷ values) fixed long same within h =
    let whole = sum-cons width widths in (
      value_moved field.kind width (element_at first size before width place) (element_at first' size before width place') (start_at first size before width place) (start_at first' size before width place') area area' value
          (first_fixed field fields fixed) (same_within first first' (place * size) (place' * size) size before width same (omega arith)) h.0,
      fields_moved fields widths first first' areas areas' size place place' (before + width) values (rest_fixed field fields fixed) (omega arith) same (omega arith) h.1,
    )

gaps_moved : (fields : List Field) (widths first first' : List ℕ) (areas areas' : List (List ℕ)) (size place place' before : ℕ) → AreFixed fields → length areas ≡ length areas'
    → SameBits first first' size place place' → before + sum widths ≤ size
    → AllZip (λ field part. IsGap field.kind part) fields (parts_from first size place before widths areas) → AllZip (λ field part. IsGap field.kind part) fields (parts_from first' size place' before widths areas')
gaps_moved fields [] first first' areas areas' size place place' before fixed long same within h = h
gaps_moved fields (width ∷ widths) first first' [] [] size place place' before fixed long same within h = h
gaps_moved fields (width ∷ widths) first first' [] (area' ∷ areas') size place place' before fixed long same within h = absurd (omega arith)
gaps_moved fields (width ∷ widths) first first' (area ∷ areas) [] size place place' before fixed long same within h = absurd (omega arith)
gaps_moved [] (width ∷ widths) first first' (area ∷ areas) (area' ∷ areas') size place place' before fixed long same within h = absurd h
gaps_moved (field ∷ fields) (width ∷ widths) first first' (area ∷ areas) (area' ∷ areas') size place place' before fixed long same within h =
    let whole = sum-cons width widths in (
      gap_moved field.kind width (element_at first size before width place) (element_at first' size before width place') (start_at first size before width place) (start_at first' size before width place') area area'
          (first_fixed field fields fixed) (same_within first first' (place * size) (place' * size) size before width same (omega arith)) h.0,
      gaps_moved fields widths first first' areas areas' size place place' (before + width) (rest_fixed field fields fixed) (omega arith) same (omega arith) h.1,
    )

pub row_moved : (shape : Shape) (widths first first' : List ℕ) (areas areas' : List (List ℕ)) (place place' : ℕ) (row : Row) → AreFixed (shape_fields shape) → length areas ≡ length areas'
    → record_at widths first place ≡ record_at widths first' place' → SpellsObjectRow shape widths first areas place row → SpellsObjectRow shape widths first' areas' place' row
row_moved shape widths first first' areas areas' place place' (Row.Object values) fixed long same h =
    fields_moved (shape_fields shape) widths first first' areas areas' (sum widths) place place' 0 values fixed long same (omega arith) h
row_moved shape widths first first' areas areas' place place' _ fixed long same h = absurd h

pub gap_row_moved : (shape : Shape) (widths first first' : List ℕ) (areas areas' : List (List ℕ)) (place place' : ℕ) → AreFixed (shape_fields shape) → length areas ≡ length areas'
    → record_at widths first place ≡ record_at widths first' place' → PacksPlace shape widths first areas place None → PacksPlace shape widths first' areas' place' None
gap_row_moved shape widths first first' areas areas' place place' fixed long same h =
    gaps_moved (shape_fields shape) widths first first' areas areas' (sum widths) place place' 0 fixed long same (omega arith) h

-- ---- a place without bits has no row

gap_of_none : (kind : FieldKind) (width element start : ℕ) (area : List ℕ) → (HasBytes kind → ⊥) → element ≡ 0 → IsGap kind (part_of width element start area)
gap_of_none FieldKind.Text width element start area fixed none = absurd (fixed tt)
gap_of_none FieldKind.Bytes width element start area fixed none = absurd (fixed tt)
gap_of_none _ width element start area fixed none = none

no_gaps : (fields : List Field) (widths first : List ℕ) (areas : List (List ℕ)) (size place before : ℕ) → AreFixed fields → length widths ≡ length fields → length areas ≡ length fields
    → element_of first (place * size) size ≡ 0 → before + sum widths ≤ size → AllZip (λ field part. IsGap field.kind part) fields (parts_from first size place before widths areas)
no_gaps [] [] first areas size place before fixed wide filled none within = tt
no_gaps [] (width ∷ widths) first areas size place before fixed wide filled none within = absurd (omega arith)
no_gaps (field ∷ fields) [] first areas size place before fixed wide filled none within = absurd (omega arith)
no_gaps (field ∷ fields) (width ∷ widths) first [] size place before fixed wide filled none within = absurd (omega arith)
no_gaps (field ∷ fields) (width ∷ widths) first (area ∷ areas) size place before fixed wide filled none within =
    let whole = sum-cons width widths in (
      gap_of_none field.kind width (element_at first size before width place) (start_at first size before width place) area (first_fixed field fields fixed)
          (none_within first (place * size) size before width none (omega arith)),
      no_gaps fields widths first areas size place (before + width) (rest_fixed field fields fixed) (omega arith) (omega arith) none (omega arith),
    )

pub empty_place : (shape : Shape) (widths first : List ℕ) (areas : List (List ℕ)) (place : ℕ) → AreFixed (shape_fields shape) → length widths ≡ length (shape_fields shape)
    → length areas ≡ length (shape_fields shape) → record_at widths first place ≡ 0 → PacksPlace shape widths first areas place None
empty_place shape widths first areas place fixed wide filled none =
    no_gaps (shape_fields shape) widths first areas (sum widths) place 0 fixed wide filled none (omega arith)
