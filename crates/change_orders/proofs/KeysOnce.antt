-- Keys are looked up by their hashes among those before them, and the first that stands there is the first that stands twice.
use Rattle.std.proofs.Common.{◌≡◌, ◌∙◌, ℕ, zero, suc, ◌+◌, ◌<◌, ◌≤◌, List, [], ◌∷◌, take, length, Bool, Option, Some, None, inl, inr, refl, sym, ap, subst, arith}
use Rattle.std.specs.Prelude.{IsSomeAnd, if◌then◌else◌, nat_eq, option_map, slice_get, slice_set}
use Rattle.std.proofs.lemmas.Bool.{cases_eq, cases_lt}
use Rattle.write_engine.proofs.Members.{apart_test, same_test}
use Rattle.linked_slots.specs.Chained.{Chained, hash_of}
use Rattle.row_hash.specs.Hash.{values_hash}
use Rattle.change_orders.specs.declared.keyed_records.KeyAt.{KeyAt}
use Rattle.change_orders.specs.Keys.{AreApartTo, AreHashed, HasKeyOf, HaveSameKey, IsSameAt, TellsAgain}

-- an item of a front
get_take : {A : Type 0} (xs : List A) (n k : ℕ) → k < n → slice_get (take n xs) k ≡ slice_get xs k
get_take [] zero k below = absurd (omega (arith, below))
get_take [] (suc n) k below = refl
get_take (x ∷ xs) zero k below = absurd (omega (arith, below))
get_take (x ∷ xs) (suc n) zero below = refl
get_take (x ∷ xs) (suc n) (suc k) below = get_take xs n k (omega (arith, below))

take_past : {A : Type 0} (xs : List A) (n k : ℕ) → n ≤ k → slice_get (take n xs) k ≡ None
take_past [] zero k past = refl
take_past [] (suc n) k past = refl
take_past (x ∷ xs) zero k past = refl
take_past (x ∷ xs) (suc n) zero past = absurd (omega (arith, past))
take_past (x ∷ xs) (suc n) (suc k) past = take_past xs n k (omega (arith, past))

module _ (found : List KeyAt) (place : ℕ) (one : KeyAt) (at : slice_get found place ≡ Some one) where
  -- the key at a place is linked behind those before it
  pub hashed_more : (before after : Chained) → AreHashed (take place found) before → ((other : ℕ) → hash_of after other ≡ (if nat_eq other place then Some (values_hash one.key) else hash_of before other))
      → AreHashed (take (place + 1) found) after
  hashed_more before after hashed linked other = elim (cases_eq other place) [
    | inl same ↦
        let here : hash_of after other ≡ Some (values_hash one.key) = linked other ∙ at_same other same in
        here ∙ ap (option_map (λ (k : KeyAt). values_hash k.key)) (sym (get_take found (place + 1) other (omega (arith, same)) ∙ ap (slice_get found) same ∙ at))
    | inr apart ↦ linked other ∙ at_other other apart ∙ hashed other ∙ ap (option_map (λ (k : KeyAt). values_hash k.key)) (elsewhere other apart)
  ]
    where
      at_same : (o : ℕ) → o ≡ place → (if nat_eq o place then Some (values_hash one.key) else hash_of before o) ≡ Some (values_hash one.key)
      at_same o same = ap (λ (b : Bool). if b then Some (values_hash one.key) else hash_of before o) (same_test o place same)

      at_other : (o : ℕ) → (o ≡ place → ⊥) → (if nat_eq o place then Some (values_hash one.key) else hash_of before o) ≡ hash_of before o
      at_other o apart = ap (λ (b : Bool). if b then Some (values_hash one.key) else hash_of before o) (apart_test o place apart)

      elsewhere : (o : ℕ) → (o ≡ place → ⊥) → slice_get (take place found) o ≡ slice_get (take (place + 1) found) o
      elsewhere o apart = elim (cases_lt o place) [
        | inl below ↦ get_take found place o below ∙ sym (get_take found (place + 1) o (omega (arith, below)))
        | inr past ↦ take_past found place o past ∙ sym (take_past found (place + 1) o (omega (arith, past, apart)))
      ]

  -- where no key before is the same, the keys up to the place stand once each
  pub apart_more : AreApartTo found place → ((first : ℕ) → HasKeyOf (take place found) one first → ⊥) → AreApartTo found (place + 1)
  apart_more apart none first second before within same = elim (cases_lt second place) [
    | inl below ↦ apart first second before below same
    | inr past ↦
        let here : second ≡ place = omega (arith, within, past) in
        let got : slice_get found second ≡ Some one = ap (slice_get found) here ∙ at in
        none first (by_first (slice_get found first) (get_take found place first (omega (arith, before, here))) got same)
  ]
    where
      by_first : (item : Option KeyAt) → slice_get (take place found) first ≡ item → slice_get found second ≡ Some one
          → IsSomeAnd item (λ x. IsSomeAnd (slice_get found second) (λ y. HaveSameKey x y)) → HasKeyOf (take place found) one first
      by_first None is got same = absurd same
      by_first (Some x) is got same =
          subst (λ (o : Option KeyAt). IsSomeAnd o (λ other. HaveSameKey other one)) (sym is) (subst (λ (o : Option KeyAt). IsSomeAnd o (λ y. HaveSameKey x y)) got same)

-- behind the last place no two keys are the same
pub none_again : (found : List KeyAt) (place : ℕ) → length found ≤ place → AreApartTo found place → TellsAgain found None
none_again found place past apart first second before same = apart first second before (omega (arith, past, inside found first second same)) same
  where
    inside : (xs : List KeyAt) (first second : ℕ) → IsSameAt xs first second → second < length xs
    inside xs first second same = by_items (slice_get xs first) same
      where
        there : (ys : List KeyAt) (n : ℕ) (P : KeyAt → Type 0) → IsSomeAnd (slice_get ys n) P → n < length ys
        there [] n P has = absurd has
        there (y ∷ ys) zero P has = omega arith
        there (y ∷ ys) (suc n) P has = let rest = there ys n P has in omega (arith, rest)

        by_items : (item : Option KeyAt) → IsSomeAnd item (λ x. IsSomeAnd (slice_get xs second) (λ y. HaveSameKey x y)) → second < length xs
        by_items None has = absurd has
        by_items (Some x) has = there xs second (λ y. HaveSameKey x y) has

-- a list is as long with another item at a place
pub set_length : {A : Type 0} (xs : List A) (n : ℕ) (x : A) → length (slice_set xs n x) ≡ length xs
set_length [] n x = refl
set_length (y ∷ xs) zero x = refl
set_length (y ∷ xs) (suc n) x = ap suc (set_length xs n x)

-- places with the same key are places of the list
item_within : (xs : List KeyAt) (n : ℕ) (P : KeyAt → Type 0) → IsSomeAnd (slice_get xs n) P → n < length xs
item_within [] n P has = absurd has
item_within (y ∷ ys) zero P has = omega arith
item_within (y ∷ ys) (suc n) P has = let rest = item_within ys n P has in omega (arith, rest)

pub same_within : (xs : List KeyAt) (first second : ℕ) → IsSameAt xs first second → (first < length xs) × (second < length xs)
same_within xs first second same = (item_within xs first (λ x. IsSomeAnd (slice_get xs second) (λ y. HaveSameKey x y)) same, by_first (slice_get xs first) same)
  where
    by_first : (item : Option KeyAt) → IsSomeAnd item (λ x. IsSomeAnd (slice_get xs second) (λ y. HaveSameKey x y)) → second < length xs
    by_first None has = absurd has
    by_first (Some x) has = item_within xs second (λ y. HaveSameKey x y) has

-- what holds of the items at two places
pub of_both : (xs : List KeyAt) (first second : ℕ) (x y : KeyAt) (R : KeyAt → KeyAt → Type 0) → slice_get xs first ≡ Some x → slice_get xs second ≡ Some y → R x y → IsSomeAnd (slice_get xs first) (λ one. IsSomeAnd (slice_get xs second) (λ other. R one other))
of_both xs first second x y R at too is =
    subst (λ (o : Option KeyAt). IsSomeAnd o (λ one. IsSomeAnd (slice_get xs second) (λ other. R one other))) (sym at) (subst (λ (o : Option KeyAt). IsSomeAnd o (λ other. R x other)) (sym too) is)
