-- Lemmas on places that are as where there is no row.
use Rattle.std.proofs.Common.{◌≡◌, ℕ, zero, suc, ◌+◌, ◌*◌, ◌^◌, ◌<◌, ◌≤◌, List, [], ◌∷◌, length, get_or, take, inl, inr, refl, sym, ◌∙◌, subst, arith}
use Rattle.std.specs.Prelude.{sum}
use Rattle.std.specs.List.{AllZip}
use Rattle.std.proofs.lemmas.Bool.{cases_eq}
use Rattle.std.proofs.lemmas.List.Sums.{sum_by_more}
use Rattle.bit_array.specs.Element.{element_of, number_of}
use Rattle.bit_array.proofs.Blocks.{two_fields}
use Rattle.bit_array.proofs.Elements.{element_of_no_width}
use Rattle.row_model.specs.Areas.{area_of}
use Rattle.schema_model.specs.declared.schema.Field.{Field}
use Rattle.object_codec.specs.ObjectPlace.{part_at, parts_of}
use Rattle.object_codec.specs.Packing.{IsGap}
use Rattle.object_codec.proofs.FieldParts.{zip_all}

-- The first fields of a place are as where there is no row, whatever bytes the fields have; they have so many bits.
pub record GapSoFar (fields : List Field) (widths first : List ℕ) (place count before : ℕ) : Type 0 where
  pub summed : before ≡ sum (take count widths)
  pub each : (k : ℕ) (field : Field) → k < count → field ≡ get_or fields k field → (area : List ℕ) → IsGap field.kind (part_at first (sum widths) place (sum (take k widths)) (get_or widths k 0) area)

pub gap_none : (fields : List Field) (widths first : List ℕ) (place : ℕ) → GapSoFar fields widths first place 0 0
gap_none fields widths first place = record { summed = refl; each = λ k field below is area. absurd (omega (arith, below)) }

same_field : (fields : List Field) (k : ℕ) (one other : Field) → k < length fields → one ≡ get_or fields k one → other ≡ get_or fields k other → one ≡ other
same_field [] k one other inside is other_is = absurd (omega (arith, inside))
same_field (field ∷ fields) zero one other inside is other_is = is ∙ sym other_is
same_field (field ∷ fields) (suc k) one other inside is other_is = same_field fields k one other (omega (arith, inside)) is other_is

pub gap_more : (fields : List Field) (widths first : List ℕ) (place size count before width : ℕ) (field : Field) → GapSoFar fields widths first place count before → count < length fields → length widths ≡ length fields
    → field ≡ get_or fields count field → size ≡ sum widths → width ≡ get_or widths count 0 → ((area : List ℕ) → IsGap field.kind (part_at first size place before width area)) → GapSoFar fields widths first place (count + 1) (before + width)
gap_more fields widths first place size count before width field so inside long is whole width_is gap = record {
  summed = omega (arith, so.summed, width_is, sum_by_more (λ w. w) widths count 0 (omega (arith, inside, long)));
  each = λ k other below other_is area. elim (cases_eq k count) [
    | inr apart ↦ so.each k other (omega (arith, below, λ (e : k ≡ count). apart e)) other_is area
    | inl same ↦
        let one : field ≡ other = same_field fields count field other inside is (subst (λ n. other ≡ get_or fields n other) same other_is) in
        let here : IsGap field.kind (part_at first (sum widths) place (sum (take count widths)) (get_or widths count 0) area) =
        subst (λ n. IsGap field.kind (part_at first n place (sum (take count widths)) (get_or widths count 0) area)) whole
        (subst (λ n. IsGap field.kind (part_at first size place n (get_or widths count 0) area)) so.summed
        (subst (λ n. IsGap field.kind (part_at first size place before n area)) width_is (gap area))) in
        subst (λ n. IsGap other.kind (part_at first (sum widths) place (sum (take n widths)) (get_or widths n 0) area)) (sym same)
        (subst (λ f. IsGap f.kind (part_at first (sum widths) place (sum (take count widths)) (get_or widths count 0) area)) one here)
  ];
}

pub gap_all : (fields : List Field) (widths first : List ℕ) (areas : List (List ℕ)) (place count before : ℕ) → GapSoFar fields widths first place count before → length fields ≤ count → length widths ≡ length fields
    → length areas ≡ length fields → AllZip (λ field part. IsGap field.kind part) fields (parts_of widths first areas place)
gap_all fields widths first areas place count before so past long filled =
    zip_all (λ field part. IsGap field.kind part) fields widths first areas (sum widths) place 0 long filled
    (λ k field inside is.
    let none : sum (take k widths) ≡ 0 + sum (take k widths) = omega arith in
    subst (λ n. IsGap field.kind (part_at first (sum widths) place n (get_or widths k 0) (area_of areas k))) none (so.each k field (omega (arith, inside, past)) is (area_of areas k)))

-- ---- bits that are zero

pub none_clear : (words : List ℕ) (start : ℕ) → element_of words start 0 ≡ 0
none_clear words start = element_of_no_width words start

pub more_clear : (words : List ℕ) (start done width : ℕ) → element_of words start done ≡ 0 → element_of words (start + done) width ≡ 0 → element_of words start (done + width) ≡ 0
unfolding number_of element_of
more_clear words start done width low high =
    two_fields (number_of words) start done width ∙ (λ i. high i * 2 ^ done + low i) ∙ (let none : 0 * 2 ^ done + 0 ≡ 0 = omega arith in none)
