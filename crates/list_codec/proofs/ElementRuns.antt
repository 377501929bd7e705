-- Lemmas on the elements from a start up to an end, and on elements that are read one by one.
use Rattle.std.proofs.Common.{◌≡◌, ℕ, ◌+◌, ◌-◌, ◌*◌, ◌^◌, ◌<◌, ◌≤◌, List, [], ◌∷◌, ◌++◌, length, get_or, take, sym, ap, ◌∙◌, arith}
use Rattle.std.specs.Prelude.{All, Any, map}
use Rattle.std.specs.List.{range_with_len}
use Rattle.std.proofs.lemmas.List.{get_or_default, take_all, take_more}
use Rattle.std.proofs.lemmas.List.Elements.{All-push}
use Rattle.std.proofs.lemmas.List.FromFn.{map-range_with_len_more}
use Rattle.bit_array.specs.Element.{element_of}
use Rattle.list_codec.specs.ListPlace.{elements_between, IsPastOrdinals}

-- one element more
pub elements_more : (words : List ℕ) (width start index : ℕ) → start ≤ index → elements_between words width start (index + 1) ≡ elements_between words width start index ++ element_of words (index * width) width ∷ []
elements_more words width start index from =
    let count : index + 1 - start ≡ index - start + 1 = omega arith in
    ap (λ n. map (λ k. element_of words (k * width) width) (range_with_len start n)) count
    ∙ map-range_with_len_more (λ k. element_of words (k * width) width) start (index - start) index (omega arith)

-- the elements up to an index are read
pub record ReadSoFar (elements : List ℕ) (index : ℕ) (ordinals : List ℕ) : Type 0 where
  pub are : ordinals ≡ take index elements
  pub small : All (λ ordinal. ordinal ≤ 2 ^ 32 - 1) ordinals

pub read_more : (elements : List ℕ) (index element : ℕ) (ordinals : List ℕ) → ReadSoFar elements index ordinals → index < length elements → element ≡ get_or elements index 0 → element ≤ 2 ^ 32 - 1
    → ReadSoFar elements (index + 1) (ordinals ++ element ∷ [])
read_more elements index element ordinals done inside is small = record {
  are = ap (λ (os : List ℕ). os ++ element ∷ []) done.are ∙ ap (λ e. take index elements ++ e ∷ []) is ∙ sym (take_more elements index 0 inside);
  small = All-push (λ ordinal. ordinal ≤ 2 ^ 32 - 1) ordinals element done.small small;
}

pub read_all : (elements : List ℕ) (index : ℕ) (ordinals : List ℕ) → ReadSoFar elements index ordinals → length elements ≤ index → (ordinals ≡ elements) × All (λ ordinal. ordinal ≤ 2 ^ 32 - 1) ordinals
read_all elements index ordinals done all = (done.are ∙ take_all index elements all, done.small)

-- an element is past the ordinals
pub past_ordinals : (elements : List ℕ) (index element : ℕ) → index < length elements → element ≡ get_or elements index 0 → IsPastOrdinals element → Any IsPastOrdinals elements
past_ordinals elements index element inside is past = (index, element, inside, get_or_default elements index element 0 inside ∙ sym is, past)
