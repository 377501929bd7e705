-- Lemmas on things of which there is one for each type, in model order.
use Rattle.std.proofs.Common.{◌≡◌, ℕ, zero, suc, ◌+◌, ◌<◌, List, [], ◌∷◌, ◌++◌, length, Some, sym, ap, ◌∙◌, subst, arith}
use Rattle.std.specs.Prelude.{map, slice_get}
use Rattle.std.specs.List.{AllZip, range_with_len}
use Rattle.std.proofs.lemmas.List.FromFn.{length-range_with_len}
use Rattle.std.proofs.lemmas.Slice.Zip.{AllZip-long}

range_more : (from count : ℕ) → range_with_len from (suc count) ≡ range_with_len from count ++ (from + count) ∷ []
range_more from zero = let e : from ≡ from + 0 = omega arith in ap (λ (k : ℕ). k ∷ []) e
range_more from (suc count) =
    let e : from + 1 + count ≡ from + suc count = omega arith in
    ap (λ (rest : List ℕ). from ∷ rest) (range_more (from + 1) count ∙ ap (λ (k : ℕ). range_with_len (from + 1) count ++ k ∷ []) e)

-- the indexes of the first types, and one more
pub first_types : (count : ℕ) → range_with_len 0 count ++ count ∷ [] ≡ range_with_len 0 (count + 1)
first_types count =
    let next : suc count ≡ count + 1 = omega arith in
    let here : 0 + count ≡ count = omega arith in
    ap (λ (k : ℕ). range_with_len 0 count ++ k ∷ []) (sym here) ∙ sym (range_more 0 count) ∙ ap (λ (k : ℕ). range_with_len 0 k) next

-- one thing more at the end, as it is said of an index more
pub pushed : {X : Type 0} (R : ℕ → X → Type 0) (indexes : List ℕ) (things : List X) (index : ℕ) (x : X) → AllZip R indexes things → R index x
    → AllZip R (indexes ++ index ∷ []) (things ++ x ∷ [])
pushed R [] [] index x are is = (is, tt)
pushed R [] (y ∷ things) index x are is = absurd are
pushed R (i ∷ indexes) [] index x are is = absurd are
pushed R (i ∷ indexes) (y ∷ things) index x are is = (are.0, pushed R indexes things index x are.1 is)

module _ {X : Type 0} (Is : ℕ → X → Type 0) where
  pub one_more : (count : ℕ) (things more : List X) (x : X) → AllZip Is (range_with_len 0 count) things → Is count x → more ≡ things ++ x ∷ [] → AllZip Is (range_with_len 0 (count + 1)) more
  one_more count things more x are is put =
      let indexes = range_with_len 0 count in
      subst (λ (xs : List X). AllZip Is (range_with_len 0 (count + 1)) xs) (sym put)
      (subst (λ (ts : List ℕ). AllZip Is ts (things ++ x ∷ [])) (first_types count) (pushed Is indexes things count x are is))

  pub as_many : (count : ℕ) (things : List X) → AllZip Is (range_with_len 0 count) things → length things ≡ count
  as_many count things are = AllZip-long Is (range_with_len 0 count) things are ∙ length-range_with_len 0 count

  there_from : (from count place : ℕ) (things : List X) (x : X) → AllZip Is (range_with_len from count) things → slice_get things place ≡ Some x → Is (from + place) x
  there_from from zero place (y ∷ things) x are at = absurd are
  there_from from zero zero [] x are at = absurd cc
  there_from from zero (suc place) [] x are at = absurd cc
  there_from from (suc count) place [] x are at = absurd are
  there_from from (suc count) zero (y ∷ things) x are at =
      let here : from ≡ from + 0 = omega arith in
      let same : y ≡ x = cc in
      subst (λ (i : ℕ). Is i x) here (subst (Is from) same are.0)
  there_from from (suc count) (suc place) (y ∷ things) x are at =
      let next : from + 1 + place ≡ from + suc place = omega arith in
      subst (λ (i : ℕ). Is i x) next (there_from (from + 1) count place things x are.1 at)

  -- the thing of a type is as it is said
  pub of_type : (count type_index : ℕ) (things : List X) (x : X) → AllZip Is (range_with_len 0 count) things → slice_get things type_index ≡ Some x → Is type_index x
  of_type count type_index things x are at = subst (λ (i : ℕ). Is i x) (let zero_more : 0 + type_index ≡ type_index = omega arith in zero_more) (there_from 0 count type_index things x are at)

module _ {X : Type 0} (Is Also : ℕ → X → Type 0) where
  also_from : (from count : ℕ) (things : List X) → ((type_index : ℕ) (x : X) → type_index < from + count → Is type_index x → Also type_index x) → AllZip Is (range_with_len from count) things
      → AllZip Also (range_with_len from count) things
  also_from from zero [] more are = tt
  also_from from zero (x ∷ things) more are = absurd are
  also_from from (suc count) [] more are = absurd are
  also_from from (suc count) (x ∷ things) more are =
      (more from x (omega arith) are.0, also_from (from + 1) count things (λ i y below is. more i y (omega (arith, below)) is) are.1)

  pub also : (count : ℕ) (things : List X) → ((type_index : ℕ) (x : X) → type_index < count → Is type_index x → Also type_index x) → AllZip Is (range_with_len 0 count) things → AllZip Also (range_with_len 0 count) things
  also count things more are = also_from 0 count things (λ i x below is. more i x (omega (arith, below)) is) are

-- the same of what is made of each thing
module _ {X Y : Type 0} (Is : ℕ → X → Type 0) (Also : ℕ → Y → Type 0) (f : X → Y) where
  images_from : (from count : ℕ) (things : List X) → ((type_index : ℕ) (x : X) → type_index < from + count → Is type_index x → Also type_index (f x)) → AllZip Is (range_with_len from count) things
      → AllZip Also (range_with_len from count) (map f things)
  images_from from zero [] more are = tt
  images_from from zero (x ∷ things) more are = absurd are
  images_from from (suc count) [] more are = absurd are
  images_from from (suc count) (x ∷ things) more are =
      (more from x (omega arith) are.0, images_from (from + 1) count things (λ i y below is. more i y (omega (arith, below)) is) are.1)

  pub images : (count : ℕ) (things : List X) → ((type_index : ℕ) (x : X) → type_index < count → Is type_index x → Also type_index (f x)) → AllZip Is (range_with_len 0 count) things
      → AllZip Also (range_with_len 0 count) (map f things)
  images count things more are = images_from 0 count things (λ i x below is. more i x (omega (arith, below)) is) are
