-- Lemmas on the elements of lists where they stand packed.
use Rattle.std.proofs.Common.{◌≡◌, ℕ, ◌+◌, ◌-◌, ◌*◌, ◌^◌, ◌<◌, ◌≤◌, List, [], length, get_or, refl, ap, ◌∙◌, subst, sym, arith, inl, inr}
use Rattle.std.specs.Prelude.{All, Any}
use Rattle.std.proofs.Math.Nat.{mul-le-mul}
use Rattle.std.proofs.Math.Pow.{pow_mono}
use Rattle.std.proofs.lemmas.Bool.{cases_lt}
use Rattle.std.proofs.lemmas.List.Elements.{All-from_get_or}
use Rattle.std.proofs.lemmas.List.FromFn.{length-map-range_with_len, get_or-map-range_with_len}
use Rattle.bit_array.specs.Element.{element_of}
use Rattle.bit_array.proofs.Elements.{element_of-lt}
use Rattle.list_codec.specs.ListPlace.{HasElements, IsPastOrdinals, SpellsList, element_width, elements_at, elements_between, end_at, start_at}
use Rattle.list_codec.specs.declared.elements.Elements.{Elements}
use Rattle.list_codec.specs.Elements.{AreOrdinals, AreOrdinalReaches, HasPastOrdinals, elements_of}

-- elements of few bits are ordinals
pub narrow_ordinals : (words : List ℕ) (width start end : ℕ) → width ≤ 32 → AreOrdinals words width start end
narrow_ordinals words width start end narrow index low below =
    let most : 2 ^ width ≤ 2 ^ 32 = pow_mono narrow in omega (arith, element_of-lt words (index * width) width, most)

module _ (words : List ℕ) (width start end : ℕ) where
  long : length (elements_between words width start end) ≡ end - start
  long = length-map-range_with_len (λ index. element_of words (index * width) width) start (end - start)

  pub ordinals_all : AreOrdinals words width start end → All (λ ordinal. ordinal ≤ 2 ^ 32 - 1) (elements_between words width start end)
  ordinals_all are = All-from_get_or (λ ordinal. ordinal ≤ 2 ^ 32 - 1) (elements_between words width start end) 0 (λ k below.
      (let inside : k < end - start = omega (arith, below, long) in
      let is = get_or-map-range_with_len (λ index. element_of words (index * width) width) start (end - start) k (start + k) 0 inside refl in
      subst (λ element. element ≤ 2 ^ 32 - 1) (sym is) (are (start + k) (omega arith) (omega arith))))

  pub past_any : HasPastOrdinals words width start end → Any IsPastOrdinals (elements_between words width start end)
  past_any has =
      let low = has.1 in
      let below = has.2 in
      let element = element_of words (has.0 * width) width in (
        has.0 - start,
        element,
        omega (arith, low, below, long),
        get_or-map-range_with_len (λ index. element_of words (index * width) width) start (end - start) (has.0 - start) has.0 element (omega arith) (omega arith),
        has.3,
      )

-- one element more
pub ordinals_more : (words : List ℕ) (width start index : ℕ) → AreOrdinals words width start index → element_of words (index * width) width ≤ 2 ^ 32 - 1 → AreOrdinals words width start (index + 1)
ordinals_more words width start index are small k low below =
    elim (cases_lt k index) [
      | inl lt ↦ are k low lt
      | inr ge ↦ (let same : index ≡ k = omega arith in subst (λ i. element_of words (i * width) width ≤ 2 ^ 32 - 1) same small)
    ]

-- those before an index, and those that a reach tells of
pub ordinals_up_to : (words : List ℕ) (width start index end step : ℕ) (reaches : List ℕ) → AreOrdinals words width start index → AreOrdinalReaches words width reaches → step < length reaches → end ≤ get_or reaches step 0 → 64 * step ≤ index
    → AreOrdinals words width start end
ordinals_up_to words width start index end step reaches are told inside far low k above below =
    elim (cases_lt k index) [
      | inl lt ↦ are k above lt
      | inr ge ↦ told step inside k (omega arith) (omega arith)
    ]

-- the words hold an element before one that they hold
pub held_before : (words : List ℕ) (width index end : ℕ) → index < end → end * width ≤ 64 * length words → (index + 1) * width ≤ 64 * length words
held_before words width index end below held =
    let step : index + 1 ≤ end = omega arith in
    let same : width ≤ width = omega arith in
    let grown : (index + 1) * width ≤ end * width = mul-le-mul step same in
    omega (arith, grown, held)

pub no_reaches_yet : (words : List ℕ) (width : ℕ) (reaches : List ℕ) → reaches ≡ [] → AreOrdinalReaches words width reaches
no_reaches_yet words width reaches none step inside = absurd (omega (arith, inside, ap length none))

-- what the elements between two bounds tell of the list at a place
module _ (widths : List ℕ) (total : ℕ) (first words : List ℕ) (place width start end : ℕ) (has : HasElements widths total first words place) (from : start ≡ start_at widths first place) (to : end ≡ end_at widths first place)
    (is : width ≡ element_width widths) where
  spelled_here : elements_between words width start end ≡ elements_at widths first words place
  spelled_here = ap (λ w. elements_between words w start end) is ∙ ap (λ s. elements_between words (element_width widths) s end) from
      ∙ ap (λ e. elements_between words (element_width widths) (start_at widths first place) e) to

  pub list_spelled : AreOrdinals words width start end → (ordinals : List ℕ) × SpellsList widths total first words place ordinals
  list_spelled are = (
    elements_at widths first words place,
    record { has = has; are = refl; small = subst (All (λ ordinal. ordinal ≤ 2 ^ 32 - 1)) spelled_here (ordinals_all words width start end are) },
  )

  pub list_failed : HasPastOrdinals words width start end → HasElements widths total first words place × Any IsPastOrdinals (elements_at widths first words place)
  list_failed past = (has, subst (Any IsPastOrdinals) spelled_here (past_any words width start end past))

-- there are as many elements as the view says
pub elements_long : (elements : Elements) → length (elements_of elements) ≡ elements.len
elements_long elements = length-map-range_with_len (λ index. element_of elements.words.now (index * elements.width) elements.width) elements.start elements.len
