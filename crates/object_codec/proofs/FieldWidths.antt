-- Lemmas on the widths of fields.
use Rattle.std.proofs.Common.{◌≡◌, ℕ, zero, suc, ◌+◌, ◌*◌, ◌^◌, ◌<◌, ◌≤◌, List, [], ◌∷◌, length, take, get_or, arith, subst, sym}
use Rattle.std.specs.Prelude.{sum}
use Rattle.std.specs.List.{AllZip, AllByRecursion}
use Rattle.std.proofs.lemmas.List.Elements.{All-from_recursion}
use Rattle.std.proofs.lemmas.List.Sums.{sum_by-le, sum_by_more_le}
use Rattle.std.proofs.lemmas.Slice.Zip.{AllZip-long}
use Rattle.std.proofs.Math.Nat.{mul-le-mul}
use Rattle.bit_array.specs.Element.{element_of}
use Rattle.bit_array.proofs.Elements.{element_of-lt}
use Rattle.schema_model.specs.declared.schema.FieldKind.{FieldKind}
use Rattle.schema_model.specs.declared.schema.Field.{Field}
use Rattle.object_codec.specs.Cell.{IsWithin}
use Rattle.object_codec.specs.ObjectPlace.{IsKindWidth, IsFieldWidth, HoldsPlace}

-- the element of a BOOLEAN has two bits
pub boolean_below : (kind : FieldKind) (width element : ℕ) → IsKindWidth kind width → kind ≡ FieldKind.Boolean → element < 2 ^ width → element < 4
boolean_below kind width element wide is below =
    let two : width ≡ 2 = subst (λ k. IsKindWidth k width) is wide in
    let small : element < 2 ^ 2 = subst (λ k. element < 2 ^ k) two below in
    omega arith

-- what holds of two lists place by place holds at an index
pub all_zip_at : {A B : Type 0} (R : A → B → Type 0) (xs : List A) (ys : List B) (i : ℕ) (d : A) (e : B) → AllZip R xs ys → i < length xs → R (get_or xs i d) (get_or ys i e)
all_zip_at R [] ys i d e h within = absurd (omega arith)
all_zip_at R (x ∷ xs) [] i d e h within = absurd h
all_zip_at R (x ∷ xs) (y ∷ ys) zero d e h within = h.0
all_zip_at R (x ∷ xs) (y ∷ ys) (suc i) d e h within = all_zip_at R xs ys i d e h.1 (omega arith)

narrow : (R : Field → ℕ → Type 0) → ((field : Field) (width : ℕ) → R field width → width ≤ 64) → (fields : List Field) (widths : List ℕ) → AllZip R fields widths
    → AllByRecursion (λ width. width ≤ 64) widths
narrow R each [] [] h = tt
narrow R each [] (width ∷ widths) h = absurd h
narrow R each (field ∷ fields) [] h = absurd h
narrow R each (field ∷ fields) (width ∷ widths) h = (each field width h.0, narrow R each fields widths h.1)

-- so many fields have 64 bits each at most
pub fields_small : (R : Field → ℕ → Type 0) → ((field : Field) (width : ℕ) → R field width → width ≤ 64) → (fields : List Field) (widths : List ℕ) → length fields ≤ 1024 → AllZip R fields widths
    → sum widths ≤ 65536
fields_small R small fields widths few wide =
    let each = All-from_recursion (λ width. width ≤ 64) widths (narrow R small fields widths wide) in
    let below : sum widths ≤ length widths * 64 = sum_by-le (λ width. width) 64 widths each in
    let long : length widths ≡ length fields = AllZip-long R fields widths wide in
    omega arith

record_small : (fields : List Field) (widths first : List ℕ) (areas : List (List ℕ)) (place : ℕ) → HoldsPlace fields widths first areas place → sum widths ≤ 65536
record_small fields widths first areas place holds = fields_small IsFieldWidth (λ field width is. is.0) fields widths holds.few holds.wide

pub record_fits : (fields : List Field) (widths first : List ℕ) (areas : List (List ℕ)) (place : ℕ) → HoldsPlace fields widths first areas place → sum widths < 2 ^ 64
record_fits fields widths first areas place holds = omega (arith, record_small fields widths first areas place holds)

pub widths_long : (fields : List Field) (widths first : List ℕ) (areas : List (List ℕ)) (place : ℕ) → HoldsPlace fields widths first areas place → length widths ≡ length fields
widths_long fields widths first areas place holds = AllZip-long IsFieldWidth fields widths holds.wide

-- the element of a field lies within the words
pub within : (fields : List Field) (widths first : List ℕ) (areas : List (List ℕ)) (place index before : ℕ) → HoldsPlace fields widths first areas place
    → index < length fields → before ≡ sum (take index widths) → IsWithin first (sum widths) place before (get_or widths index 0)
within fields widths first areas place index before holds inside summed =
    let long = widths_long fields widths first areas place holds in
    let there : index < length widths = omega (arith, long) in
    let more : sum (take index widths) + get_or widths index 0 ≤ sum widths = sum_by_more_le (λ width. width) widths index 0 there in
    let each = All-from_recursion (λ width. width ≤ 64) widths (narrow IsFieldWidth (λ field width is. is.0) fields widths holds.wide) in
    let small : sum widths ≤ 65536 = record_small fields widths first areas place holds in
    let next : place + 1 ≤ 2 ^ 32 = omega (arith, holds.below) in
    let product : (place + 1) * sum widths ≤ 2 ^ 32 * 65536 = mul-le-mul next small in
    record {
      narrow = each index 0 there;
      record_holds = omega (arith, more, summed);
      words_hold = omega (arith, more, summed, holds.within);
      fits = omega (arith, more, summed, product);
    }

-- a field's width is one of its kind
pub wide_at : (fields : List Field) (widths first : List ℕ) (areas : List (List ℕ)) (place index : ℕ) (field : Field) → HoldsPlace fields widths first areas place
    → index < length fields → field ≡ get_or fields index field → IsKindWidth field.kind (get_or widths index 0)
wide_at fields widths first areas place index field holds inside is =
    subst (λ at. IsKindWidth at.kind (get_or widths index 0)) (sym is) (all_zip_at IsFieldWidth fields widths index field 0 holds.wide inside).1

-- an element is below 2 to the power of its width
pub element_below : (first : List ℕ) (at width element : ℕ) → element ≡ element_of first at width → element < 2 ^ width
element_below first at width element is = subst (λ n. n < 2 ^ width) (sym is) (element_of-lt first at width)

-- the first bit of a place has a number
pub place_fits : (fields : List Field) (widths first : List ℕ) (areas : List (List ℕ)) (place : ℕ) → HoldsPlace fields widths first areas place → place * sum widths < 2 ^ 64
place_fits fields widths first areas place holds =
    let below : place ≤ 2 ^ 32 = omega (arith, holds.below) in
    let product : place * sum widths ≤ 2 ^ 32 * 65536 = mul-le-mul below (record_small fields widths first areas place holds) in
    omega arith
