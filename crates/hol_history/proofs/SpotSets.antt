-- What a set of spots has, after a spot is put in or taken out, and what lies in a part of it.
use Rattle.std.proofs.Common.{◌≡◌, ◌<◌, ◌≤◌, ◌+◌, ◌⊎◌, inl, inr, ℕ, zero, suc, List, [], ◌∷◌, ◌++◌, length, take, get_or, Bool, true, false, cond, not, ◌&&◌, ◌||◌, Some, None, Result, Ok, Err, refl, sym, ap, ◌∙◌, subst, arith, eqb}
use Rattle.std.specs.Prelude.{OnErr}
use Rattle.std.specs.Ordering.{is_eq}
use Rattle.std.specs.BTreeMap.Range.{IsLeBy}
use Rattle.std.specs.BTreeSet.{BTreeSet, contains, IsKeyRangeOf}
use Rattle.std.specs.declared.ops.Bound.TheVariants.{Included, Unbounded}
use Rattle.std.proofs.lemmas.Bool.{false_from_ne_true, false≢true, or_cases, or_left, or_right}
use Rattle.std.proofs.lemmas.List.{take_more}
use Rattle.std.proofs.lemmas.List.Folds.{list_any-append}
use Rattle.hol_history.specs.declared.spots.Spot.{Spot}
use Rattle.hol_history.specs.Spots.{IsFirst, has, is_among, names, spot, spot_cmp}
use Rattle.hol_history.proofs.SpotOrder.{eq_spots, ge_parts, le_parts, le_spots}

-- ---- ordinals, one after the other

among_more : (ordinals : List ℕ) (i o : ℕ) → i < length ordinals → is_among (take (i + 1) ordinals) o ≡ (is_among (take i ordinals) o || eqb (get_or ordinals i 0) o)
among_more ordinals i o within =
    ap (λ (xs : List ℕ). is_among xs o) (take_more ordinals i 0 within)
    ∙ list_any-append (λ other. eqb other o) (take i ordinals) (get_or ordinals i 0 ∷ [])
    ∙ ap (λ (b : Bool). is_among (take i ordinals) o || b) (last (eqb (get_or ordinals i 0) o))
  where
    last : (b : Bool) → (b || false) ≡ b
    last true = refl
    last false = refl

among_front : (ordinals : List ℕ) (i o : ℕ) → is_among (take i ordinals) o ≡ true → is_among ordinals o ≡ true
among_front [] zero o h = h
among_front [] (suc i) o h = h
among_front (x ∷ ordinals) zero o h = absurd (false≢true h)
among_front (x ∷ ordinals) (suc i) o h = elim (or_cases (eqb x o) (is_among (take i ordinals) o) h) [
  | inl here ↦ or_left (eqb x o) (is_among ordinals o) here
  | inr behind ↦ or_right (eqb x o) (is_among ordinals o) (among_front ordinals i o behind)
]

-- what is no spot of all ordinals is none of the first
pub names_front : (u number i t o n : ℕ) (ordinals : List ℕ) → names u ordinals number t o n ≡ false → names u (take i ordinals) number t o n ≡ false
names_front u number i t o n ordinals none = part (eqb t u && eqb n number) (is_among (take i ordinals) o) (is_among ordinals o) (among_front ordinals i o) none
  where
    part : (a g h : Bool) → (g ≡ true → h ≡ true) → (a && h) ≡ false → (a && g) ≡ false
    part true true h up is = ap (λ (b : Bool). true && b) (sym (up refl)) ∙ is
    part true false h up is = refl
    part false g h up is = refl

-- what holds in any case holds where memory is refused
pub on_err : {T E : Type 0} (r : Result T E) (P : Type 0) → P → OnErr r P
on_err (Ok x) P p = tt
on_err (Err e) P p = p

-- ---- one spot is put in, or taken out

pub none_or : (h g : Bool) → g ≡ false → (h || g) ≡ h
none_or true g none = refl
none_or false g none = none

put_one : (a x c g h : Bool) → cond (a && (x && c)) true (h || ((a && c) && g)) ≡ (h || ((a && c) && (g || x)))
put_one false x c g h = refl
put_one true true false g h = refl
put_one true false false g h = refl
put_one true true true g true = refl
put_one true true true true false = refl
put_one true true true false false = refl
put_one true false true g true = refl
put_one true false true true false = refl
put_one true false true false false = refl

take_one : (a x c g h : Bool) → cond (a && (x && c)) false (h && not ((a && c) && g)) ≡ (h && not ((a && c) && (g || x)))
take_one false x c g h = refl
take_one true true false g h = refl
take_one true false false g h = refl
take_one true true true g false = refl
take_one true true true true true = refl
take_one true true true false true = refl
take_one true false true g false = refl
take_one true false true true true = refl
take_one true false true false true = refl

module _ (old mid new : BTreeSet Spot) (u number i : ℕ) (ordinals : List ℕ) (within : i < length ordinals) where
  pub put_more : ((t o n : ℕ) → has mid t o n ≡ (has old t o n || names u (take i ordinals) number t o n))
      → ((q : Spot) → contains spot_cmp new q ≡ cond (is_eq (spot_cmp (spot u (get_or ordinals i 0) number) q)) true (contains spot_cmp mid q))
      → (t o n : ℕ) → has new t o n ≡ (has old t o n || names u (take (i + 1) ordinals) number t o n)
  put_more so_far update t o n =
      update (spot t o n)
      ∙ ap (λ (b : Bool). cond b true (has mid t o n)) (eq_spots u (get_or ordinals i 0) number t o n)
      ∙ ap (λ (b : Bool). cond (eqb t u && (eqb (get_or ordinals i 0) o && eqb n number)) true b) (so_far t o n)
      ∙ put_one (eqb t u) (eqb (get_or ordinals i 0) o) (eqb n number) (is_among (take i ordinals) o) (has old t o n)
      ∙ ap (λ (b : Bool). has old t o n || ((eqb t u && eqb n number) && b)) (sym (among_more ordinals i o within))

  pub take_more_spots : ((t o n : ℕ) → has mid t o n ≡ (has old t o n && not (names u (take i ordinals) number t o n)))
      → ((q : Spot) → contains spot_cmp new q ≡ cond (is_eq (spot_cmp (spot u (get_or ordinals i 0) number) q)) false (contains spot_cmp mid q))
      → (t o n : ℕ) → has new t o n ≡ (has old t o n && not (names u (take (i + 1) ordinals) number t o n))
  take_more_spots so_far update t o n =
      update (spot t o n)
      ∙ ap (λ (b : Bool). cond b false (has mid t o n)) (eq_spots u (get_or ordinals i 0) number t o n)
      ∙ ap (λ (b : Bool). cond (eqb t u && (eqb (get_or ordinals i 0) o && eqb n number)) false b) (so_far t o n)
      ∙ take_one (eqb t u) (eqb (get_or ordinals i 0) o) (eqb n number) (is_among (take i ordinals) o) (has old t o n)
      ∙ ap (λ (b : Bool). has old t o n && not ((eqb t u && eqb n number) && b)) (sym (among_more ordinals i o within))

-- ---- parts of a set in order

module _ (set : BTreeSet Spot) (t o from : ℕ) (r : List Spot) (range : IsKeyRangeOf spot_cmp (Included (spot t o from)) Unbounded set r) where
  -- no spot lies before the first of the part
  before_first : (first : Spot) (rest : List Spot) → r ≡ first ∷ rest → (n : ℕ) → from ≤ n → has set t o n ≡ true → IsLeBy spot_cmp first (spot t o n)
  before_first first rest is n le there =
      let least = range.2 (spot t o n) (le_spots t o from o n (omega arith) le, tt) there in
      rw is at least

  pub first_found : (first : Spot) (rest : List Spot) → r ≡ first ∷ rest → first.type_index ≡ t → first.ordinal ≡ o → IsFirst set t o from (Some first.number)
  first_found first rest is same alike =
      let inside = rw is at range.1 in
      let here : first ≡ spot t o first.number = λ i. record { type_index = same i; ordinal = alike i; number = first.number } in (
        subst (λ (s : Spot). contains spot_cmp set s ≡ true) here inside.1,
        elim (le_parts (spot t o from) first inside.0.0) [
          | inl less ↦ absurd (omega arith)
          | inr (level, parts) ↦ elim parts [ inl less ↦ absurd (omega arith) | inr (also, le) ↦ le ]
        ],
        λ n le below. false_from_ne_true (has set t o n) (λ there. elim (le_parts first (spot t o n) (before_first first rest is n le there)) [
          | inl less ↦ omega arith
          | inr (level, parts) ↦ elim parts [ inl less ↦ omega arith | inr (also, above) ↦ omega arith ]
        ]),
      )

  pub first_elsewhere : (first : Spot) (rest : List Spot) → r ≡ first ∷ rest → ((first.type_index ≡ t) × (first.ordinal ≡ o) → ⊥) → IsFirst set t o from None
  first_elsewhere first rest is apart =
      λ n le. false_from_ne_true (has set t o n) (λ there.
      let inside = rw is at range.1 in
      elim (le_parts (spot t o from) first inside.0.0) [
        | inl less ↦ elim (le_parts first (spot t o n) (before_first first rest is n le there)) [
          | inl more ↦ omega arith
          | inr (level, parts) ↦ omega arith
        ]
        | inr (same, parts) ↦ elim (le_parts first (spot t o n) (before_first first rest is n le there)) [
          | inl more ↦ omega arith
          | inr (level, others) ↦ apart (sym same, between parts others)
        ]
      ])
    where
      between : (o < first.ordinal) ⊎ ((o ≡ first.ordinal) × (from ≤ first.number)) → {n : ℕ} → (first.ordinal < o) ⊎ ((first.ordinal ≡ o) × (first.number ≤ n)) → first.ordinal ≡ o
      between (inl less) (inl more) = absurd (omega arith)
      between (inl less) (inr more) = more.0
      between (inr less) more = sym less.0

  pub first_none : r ≡ [] → IsFirst set t o from None
  first_none is = λ n le. range.5 is (spot t o n) (le_spots t o from o n (omega arith) le, tt)

module _ (set : BTreeSet Spot) (t most steps : ℕ) (r : List Spot) (range : IsKeyRangeOf spot_cmp Unbounded (Included (spot t most steps)) set r) where
  pub greatest_found : (last : Spot) (rest : List Spot) → r ≡ rest ++ last ∷ [] → last.type_index ≡ t → (o n : ℕ) → o ≤ most → n ≤ steps → has set t o n ≡ true → o ≤ last.ordinal
  greatest_found last rest is same o n le also there =
      elim (ge_parts last (spot t o n) (range.4 last rest is (spot t o n) (tt, le_spots t o n most steps le also) there)) [
        | inl more ↦ absurd (omega arith)
        | inr (level, above) ↦ above
      ]

  pub greatest_elsewhere : (last : Spot) (rest : List Spot) → r ≡ rest ++ last ∷ [] → (last.type_index ≡ t → ⊥) → (o n : ℕ) → o ≤ most → n ≤ steps → has set t o n ≡ true → ⊥
  greatest_elsewhere last rest is apart o n le also there =
      let inside = range.3 last rest is in
      elim (ge_parts last (spot t o n) (range.4 last rest is (spot t o n) (tt, le_spots t o n most steps le also) there)) [
        | inl more ↦ elim (le_parts last (spot t most steps) inside.0.1) [ inl less ↦ omega arith | inr (level, parts) ↦ omega arith ]
        | inr (level, above) ↦ apart level
      ]

  pub greatest_none : r ≡ [] → (o n : ℕ) → o ≤ most → n ≤ steps → has set t o n ≡ true → ⊥
  greatest_none is o n le also there = false≢true (sym (range.5 is (spot t o n) (tt, le_spots t o n most steps le also)) ∙ there)
