-- The order of spots, part by part.
use Rattle.std.proofs.Common.{◌≡◌, ◌<◌, ◌≤◌, ◌⊎◌, inl, inr, ℕ, Bool, false, ◌&&◌, refl, sym, ap, ◌∙◌, arith, eqb, eq-eqb}
use Rattle.std.specs.declared.cmp.Ordering.{Ordering}
use Rattle.std.specs.declared.cmp.Ordering.TheVariants.{Less, Equal, Greater}
use Rattle.std.specs.Ordering.{nat_cmp, ordering_then, is_eq, is_gt, is_lt}
use Rattle.std.specs.Cmp.{ranked}
use Rattle.std.proofs.lemmas.Bool.{cases_eq, ne_eqb, true≢false}
use Rattle.hol_history.specs.declared.spots.Spot.{Spot}
use Rattle.hol_history.specs.Spots.{spot, spot_cmp}

-- ---- two orderings, one after the other

then_not_gt : (r s : Ordering) → is_gt (ordering_then r s) ≡ false → (r ≡ Less) ⊎ ((r ≡ Equal) × (is_gt s ≡ false))
then_not_gt Less s h = inl refl
then_not_gt Equal s h = inr (refl, h)
then_not_gt Greater s h = absurd (true≢false h)

then_not_lt : (r s : Ordering) → is_lt (ordering_then r s) ≡ false → (r ≡ Greater) ⊎ ((r ≡ Equal) × (is_lt s ≡ false))
then_not_lt Less s h = absurd (true≢false h)
then_not_lt Equal s h = inr (refl, h)
then_not_lt Greater s h = inl refl

then_eq : (r s : Ordering) → is_eq (ordering_then r s) ≡ (is_eq r && is_eq s)
then_eq Less s = refl
then_eq Equal s = refl
then_eq Greater s = refl

then_le : (r s : Ordering) → is_gt r ≡ false → is_gt s ≡ false → is_gt (ordering_then r s) ≡ false
then_le Less s h k = refl
then_le Equal s h k = k
then_le Greater s h k = h

-- ---- numbers

not_gt : (a b : ℕ) → is_gt (nat_cmp a b) ≡ false → a ≤ b
not_gt a b h = by (nat_cmp a b) refl
  where
    by : (r : Ordering) → r ≡ nat_cmp a b → a ≤ b
    by Less e = let less : a < b = ranked a b Less e in omega arith
    by Equal e = let same : a ≡ b = ranked a b Equal e in omega arith
    by Greater e = absurd (true≢false (ap is_gt e ∙ h))

not_lt : (a b : ℕ) → is_lt (nat_cmp a b) ≡ false → b ≤ a
not_lt a b h = by (nat_cmp a b) refl
  where
    by : (r : Ordering) → r ≡ nat_cmp a b → b ≤ a
    by Less e = absurd (true≢false (ap is_lt e ∙ h))
    by Equal e = let same : a ≡ b = ranked a b Equal e in omega arith
    by Greater e = let more : b < a = ranked a b Greater e in omega arith

le_not_gt : (a b : ℕ) → a ≤ b → is_gt (nat_cmp a b) ≡ false
le_not_gt a b le = by (nat_cmp a b) refl
  where
    by : (r : Ordering) → r ≡ nat_cmp a b → is_gt (nat_cmp a b) ≡ false
    by Less e = ap is_gt (sym e)
    by Equal e = ap is_gt (sym e)
    by Greater e = let more : b < a = ranked a b Greater e in absurd (omega arith)

eq_tests : (a b : ℕ) → is_eq (nat_cmp a b) ≡ eqb b a
eq_tests a b = by (nat_cmp a b) refl
  where
    by : (r : Ordering) → r ≡ nat_cmp a b → is_eq (nat_cmp a b) ≡ eqb b a
    by Less e = let less : a < b = ranked a b Less e in ap is_eq (sym e) ∙ sym (ne_eqb b a (λ same. omega arith))
    by Equal e = let same : a ≡ b = ranked a b Equal e in ap is_eq (sym e) ∙ sym (eq-eqb b a (sym same))
    by Greater e = let more : b < a = ranked a b Greater e in ap is_eq (sym e) ∙ sym (ne_eqb b a (λ same. omega arith))

-- ---- spots

-- what a spot that is not behind another one says of their parts
pub le_parts : (a b : Spot) → is_gt (spot_cmp a b) ≡ false
    → (a.type_index < b.type_index) ⊎ ((a.type_index ≡ b.type_index) × ((a.ordinal < b.ordinal) ⊎ ((a.ordinal ≡ b.ordinal) × (a.number ≤ b.number))))
le_parts a b h = elim (then_not_gt (nat_cmp a.type_index b.type_index) (ordering_then (nat_cmp a.ordinal b.ordinal) (nat_cmp a.number b.number)) h) [
  | inl less ↦ inl (ranked a.type_index b.type_index Less (sym less))
  | inr (same, k) ↦ inr (
    ranked a.type_index b.type_index Equal (sym same),
    elim (then_not_gt (nat_cmp a.ordinal b.ordinal) (nat_cmp a.number b.number) k) [
      | inl less ↦ inl (ranked a.ordinal b.ordinal Less (sym less))
      | inr (alike, n) ↦ inr (ranked a.ordinal b.ordinal Equal (sym alike), not_gt a.number b.number n)
    ],
  )
]

-- what a spot that is not before another one says of their types and ordinals
pub ge_parts : (a b : Spot) → is_lt (spot_cmp a b) ≡ false → (b.type_index < a.type_index) ⊎ ((a.type_index ≡ b.type_index) × (b.ordinal ≤ a.ordinal))
ge_parts a b h = elim (then_not_lt (nat_cmp a.type_index b.type_index) (ordering_then (nat_cmp a.ordinal b.ordinal) (nat_cmp a.number b.number)) h) [
  | inl more ↦ inl (ranked a.type_index b.type_index Greater (sym more))
  | inr (same, k) ↦ inr (
    ranked a.type_index b.type_index Equal (sym same),
    elim (then_not_lt (nat_cmp a.ordinal b.ordinal) (nat_cmp a.number b.number) k) [
      | inl more ↦ let above : b.ordinal < a.ordinal = ranked a.ordinal b.ordinal Greater (sym more) in omega arith
      | inr (alike, n) ↦ let level : a.ordinal ≡ b.ordinal = ranked a.ordinal b.ordinal Equal (sym alike) in omega arith
    ],
  )
]

-- a spot of the same type with no greater ordinal and number is not behind
pub le_spots : (t o n p m : ℕ) → o ≤ p → n ≤ m → is_gt (spot_cmp (spot t o n) (spot t p m)) ≡ false
le_spots t o n p m le also =
    then_le (nat_cmp t t) (ordering_then (nat_cmp o p) (nat_cmp n m)) (le_not_gt t t (omega arith)) (then_le (nat_cmp o p) (nat_cmp n m) (le_not_gt o p le) (le_not_gt n m also))

-- spots are the same where their parts are
pub eq_spots : (t o n u p m : ℕ) → is_eq (spot_cmp (spot t o n) (spot u p m)) ≡ (eqb u t && (eqb o p && eqb m n))
eq_spots t o n u p m =
    then_eq (nat_cmp t u) (ordering_then (nat_cmp o p) (nat_cmp n m))
    ∙ ap (λ (b : Bool). b && is_eq (ordering_then (nat_cmp o p) (nat_cmp n m))) (eq_tests t u)
    ∙ ap (λ (b : Bool). eqb u t && b) (then_eq (nat_cmp o p) (nat_cmp n m))
    ∙ ap (λ (b : Bool). eqb u t && (b && is_eq (nat_cmp n m))) (eq_tests o p ∙ turned p o)
    ∙ ap (λ (b : Bool). eqb u t && (eqb o p && b)) (eq_tests n m)
  where
    turned : (a b : ℕ) → eqb a b ≡ eqb b a
    turned a b = elim (cases_eq a b) [
      | inl same ↦ eq-eqb a b same ∙ sym (eq-eqb b a (sym same))
      | inr apart ↦ ne_eqb a b apart ∙ sym (ne_eqb b a (λ same. apart (sym same)))
    ]
