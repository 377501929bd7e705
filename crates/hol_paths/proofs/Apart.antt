-- Lists in which nothing stands twice, and what taking out an element leaves of one.
use Rattle.std.proofs.Common.{◌≡◌, ◌⊎◌, ℕ, suc, ◌+◌, ◌-◌, ◌<◌, ◌≤◌, ◌∙◌, refl, sym, ap, subst, inl, inr, arith, List, [], ◌∷◌, ◌++◌, length, get_or, map, take}
use Rattle.std.specs.Prelude.{◌≢◌, All, AllPairs, Contains, slice_set}
use Rattle.std.specs.List.{remove, swap_remove}
use Rattle.std.proofs.lemmas.Bool.{cases_eq, cases_lt}
use Rattle.std.proofs.lemmas.List.{get_or-set_same, get_or-set_other, get_or-take, get_or-map, get_or_default, length-set, length-take-le, length-map, map-set, take-map}
use Rattle.std.proofs.lemmas.List.Elements.{All-append, Contains-get_or}
use Rattle.std.proofs.lemmas.List.Kept.{AllPairs-cons}
use Rattle.std.proofs.lemmas.List.Sorted.{Contains-permutation, IsPermutation-remove, length_permutation}
use Rattle.key_index.proofs.Lists.{contains_either, contains_first, contains_later}

module _ {X : Type 0} where
  abbrev pub AreApart : List X → Type 0
  AreApart xs = AllPairs (λ earlier later. earlier ≢ later) xs

  pub apart_tail : (x : X) (xs : List X) → AreApart (x ∷ xs) → AreApart xs
  apart_tail x xs apart = λ i j d before within. apart (suc i) (suc j) d (omega (arith, before)) (omega (arith, within))

  apart_head : (x : X) (xs : List X) → AreApart (x ∷ xs) → All (λ later. x ≢ later) xs
  apart_head x xs apart = λ k d within. apart 0 (suc k) d (omega arith) (omega (arith, within))

  pub apart_append : (xs ys : List X) → AreApart xs → AreApart ys → ((x : X) → Contains xs x → Contains ys x → ⊥) → AreApart (xs ++ ys)
  apart_append [] ys left right never = right
  apart_append (x ∷ xs) ys left right never =
      AllPairs-cons (λ earlier later. earlier ≢ later) x (xs ++ ys)
      (All-append (λ later. x ≢ later) xs ys (apart_head x xs left)
      (λ k d within e. never x (contains_first x x xs refl) (subst (Contains ys) (sym e) (Contains-get_or ys k d within))))
      (apart_append xs ys (apart_tail x xs left) right (λ z here there. never z (contains_later x z xs here) there))

  -- an element stands at one place
  pub one_place : (xs : List X) (i j : ℕ) (d : X) → AreApart xs → i < length xs → j < length xs → get_or xs i d ≡ get_or xs j d → i ≡ j
  one_place xs i j d apart here there same =
      elim (cases_eq i j) [
        | inl e ↦ e
        | inr other ↦ elim (cases_lt i j) [
          | inl below ↦ absurd (apart i j d below there same)
          | inr above ↦ absurd (apart j i d (omega (arith, above, other)) here (sym same))
        ]
      ]

  -- a list in which nothing stands twice is not longer than one that holds all of it
  pub no_more : (xs ys : List X) → AreApart xs → ((x : X) → Contains xs x → Contains ys x) → length xs ≤ length ys
  no_more [] ys apart all = omega arith
  no_more (x ∷ xs) ys apart all =
      let here = all x (contains_first x x xs refl) in
      let rest = remove ys here.0 in
      let moved = IsPermutation-remove ys here.0 x here.1 (sym here.2) in
      let fewer = no_more xs rest (apart_tail x xs apart) (λ y h.
      elim (contains_either x y rest (Contains-permutation ys (x ∷ rest) y moved (all y (contains_later x y xs h)))) [
        | inl e ↦ absurd (apart_head x xs apart h.0 y h.1 (e ∙ sym h.2))
        | inr later ↦ later
      ]) in
      omega (arith, fewer, length_permutation ys (x ∷ rest) moved)

-- ---- an element is taken out, and the last one takes its place

module _ {X : Type 0} (xs : List X) (i : ℕ) (d : X) (inside : i < length xs) where
  abbrev last : X
  last = get_or xs (length xs - 1) d

  abbrev rest : List X
  rest = swap_remove xs i d

  long : length rest ≡ length xs - 1
  long = length-take-le (length xs - 1) (slice_set xs i last) (omega (arith, length-set xs i last))

  pub swapped_length : length rest + 1 ≡ length xs
  swapped_length = omega (arith, long, inside)

  pub at_taken : (k : ℕ) (e : X) → k ≡ i → k < length rest → get_or rest k e ≡ get_or xs (length xs - 1) e
  at_taken k e is within =
      get_or-take (length xs - 1) (slice_set xs i last) k e (omega (arith, long, within))
      ∙ ap (λ n. get_or (slice_set xs i last) n e) is ∙ get_or-set_same xs i last e inside ∙ get_or_default xs (length xs - 1) d e (omega (arith, inside))

  pub at_other : (k : ℕ) (e : X) → (k ≡ i → ⊥) → k < length rest → get_or rest k e ≡ get_or xs k e
  at_other k e other within = get_or-take (length xs - 1) (slice_set xs i last) k e (omega (arith, long, within)) ∙ get_or-set_other xs i k last e other

  pub swapped_apart : AreApart xs → AreApart rest
  swapped_apart apart = λ a b e before within same.
      elim (cases_eq a i) [
        | inl a_is ↦ apart b (length xs - 1) e (omega (arith, long, within)) (omega (arith, inside))
            (sym (sym (at_taken a e a_is (omega (arith, before, within))) ∙ same ∙ at_other b e (λ b_is. omega (arith, before, a_is, b_is)) within))
        | inr a_other ↦ elim (cases_eq b i) [
          | inl b_is ↦ apart a (length xs - 1) e (omega (arith, long, before, within)) (omega (arith, inside))
              (sym (at_other a e a_other (omega (arith, before, within))) ∙ same ∙ at_taken b e b_is within)
          | inr b_other ↦ apart a b e before (omega (arith, long, within)) (sym (at_other a e a_other (omega (arith, before, within))) ∙ same ∙ at_other b e b_other within)
        ]
      ]

  pub from_rest : (y : X) → Contains rest y → Contains xs y
  from_rest y h =
      elim (cases_eq h.0 i) [
        | inl is ↦ subst (Contains xs) (sym (at_taken h.0 y is h.1) ∙ h.2) (Contains-get_or xs (length xs - 1) y (omega (arith, inside)))
        | inr other ↦ subst (Contains xs) (sym (at_other h.0 y other h.1) ∙ h.2) (Contains-get_or xs h.0 y (omega (arith, long, h.1)))
      ]

  pub taken_or_rest : (y : X) → Contains xs y → (get_or xs i d ≡ y) ⊎ Contains rest y
  taken_or_rest y h =
      elim (cases_eq h.0 i) [
        | inl is ↦ inl (get_or_default xs i d y inside ∙ ap (λ n. get_or xs n y) (sym is) ∙ h.2)
        | inr other ↦ elim (cases_lt h.0 (length xs - 1)) [
          | inl below ↦ (let low : h.0 < length rest = omega (arith, long, below) in inr (h.0, low, at_other h.0 y other low ∙ h.2))
          | inr above ↦ (let low : i < length rest = omega (arith, long, inside, other, above, h.1) in
              let same : length xs - 1 ≡ h.0 = omega (arith, above, h.1) in
              inr (i, low, at_taken i y refl low ∙ ap (λ n. get_or xs n y) same ∙ h.2))
        ]
      ]

  pub never_taken : AreApart xs → Contains rest (get_or xs i d) → ⊥
  never_taken apart h =
      let x = get_or xs i d in
      elim (cases_eq h.0 i) [
        | inl is ↦ apart i (length xs - 1) x (omega (arith, long, h.1, is)) (omega (arith, inside)) (get_or_default xs i x d inside ∙ sym (sym (at_taken h.0 x is h.1) ∙ h.2))
        | inr other ↦ other (one_place xs h.0 i x apart (omega (arith, long, h.1)) inside (sym (at_other h.0 x other h.1) ∙ h.2 ∙ get_or_default xs i d x inside))
      ]

-- what is read where nothing stands does not matter
pub swap_default : {X : Type 0} (xs : List X) (i : ℕ) (d e : X) → i < length xs → swap_remove xs i d ≡ swap_remove xs i e
swap_default xs i d e inside = ap (λ y. take (length xs - 1) (slice_set xs i y)) (get_or_default xs (length xs - 1) d e (omega (arith, inside)))

pub map_swapped : {X Y : Type 0} (f : X → Y) (xs : List X) (i : ℕ) (d : X) (e : Y) → i < length xs → map f (swap_remove xs i d) ≡ swap_remove (map f xs) i e
map_swapped f xs i d e inside =
    let last = get_or xs (length xs - 1) d in
    sym (take-map f (length xs - 1) (slice_set xs i last))
    ∙ ap (take (length xs - 1)) (map-set f xs i last)
    ∙ ap (λ y. take (length xs - 1) (slice_set (map f xs) i y)) (sym (get_or-map f xs (length xs - 1) d e (omega (arith, inside))))
    ∙ ap (λ (m : ℕ). take (m - 1) (slice_set (map f xs) i (get_or (map f xs) (m - 1) e))) (sym (length-map xs f))
