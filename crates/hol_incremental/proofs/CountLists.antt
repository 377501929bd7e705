-- Counts that rise and fall at one place.
use Rattle.std.proofs.Common.{◌≡◌, ◌∙◌, ◌+◌, ◌-◌, ◌<◌, ◌≤◌, ℕ, zero, suc, List, [], ◌∷◌, ◌++◌, Bool, length, get_or, map, slice_set, take, refl, sym, ap, inl, inr, arith}
use Rattle.std.specs.Prelude.{◌&&◌, cond, if◌then◌else◌, nat_eq}
use Rattle.std.proofs.lemmas.Bool.{cases_eq, cases_lt}
use Rattle.write_engine.proofs.Members.{apart_test, same_test}
use Rattle.hol_incremental.specs.Counts.{is_row, one_for, times_among}
use Rattle.hol_incremental.specs.EditKeys.{count_at}
use Rattle.hol_incremental.proofs.AddedUp.{sum_more}
use Rattle.hol_incremental.proofs.PutRows.{IsThere, is_there}

-- ---- lists

module _ {A B : Type 0} (read : A → B) where
  pub image_set : (xs : List A) (t : ℕ) (x : A) → map read (slice_set xs t x) ≡ slice_set (map read xs) t (read x)
  image_set [] t x = refl
  image_set (y ∷ xs) zero x = refl
  image_set (y ∷ xs) (suc t) x = ap (λ (rest : List B). read y ∷ rest) (image_set xs t x)

  pub image_at : (xs : List A) (t : ℕ) (d : A) (e : B) → t < length xs → get_or (map read xs) t e ≡ read (get_or xs t d)
  image_at [] t d e inside = absurd (omega (arith, inside))
  image_at (x ∷ xs) zero d e inside = refl
  image_at (x ∷ xs) (suc t) d e inside = image_at xs t d e (omega (arith, inside))

  pub image_length : (xs : List A) → length (map read xs) ≡ length xs
  image_length [] = refl
  image_length (x ∷ xs) = ap suc (image_length xs)

module _ {A : Type 0} where
  pub set_here : (xs : List A) (t : ℕ) (x d : A) → t < length xs → get_or (slice_set xs t x) t d ≡ x
  set_here [] t x d inside = absurd (omega (arith, inside))
  set_here (y ∷ xs) zero x d inside = refl
  set_here (y ∷ xs) (suc t) x d inside = set_here xs t x d (omega (arith, inside))

  pub set_beside : (xs : List A) (t u : ℕ) (x d : A) → (u ≡ t → ⊥) → get_or (slice_set xs t x) u d ≡ get_or xs u d
  set_beside [] t u x d apart = refl
  set_beside (y ∷ xs) zero zero x d apart = absurd (apart refl)
  set_beside (y ∷ xs) zero (suc u) x d apart = refl
  set_beside (y ∷ xs) (suc t) zero x d apart = refl
  set_beside (y ∷ xs) (suc t) (suc u) x d apart = set_beside xs t u x d (λ e. apart (ap suc e))

-- ---- one place

pub one_there : (t o u q : ℕ) → IsThere t o u q → one_for u q (t, o) ≡ 1
one_there t o u q there = ap (λ (b : Bool). if b then 1 else 0) (ap (λ (b : Bool). b && nat_eq o q) (same_test t u (sym there.0)) ∙ same_test o q (sym there.1))

pub one_apart : (t o u q : ℕ) → (IsThere t o u q → ⊥) → one_for u q (t, o) ≡ 0
one_apart t o u q apart =
    elim (cases_eq u t) [
      | inr other ↦ ap (λ (b : Bool). if b && nat_eq o q then 1 else 0) (apart_test t u (λ e. other (sym e)))
      | inl same ↦
          ap (λ (b : Bool). if b then 1 else 0)
          (ap (λ (b : Bool). b && nat_eq o q) (same_test t u (sym same)) ∙ apart_test o q (λ e. apart (same, sym e)))
    ]

-- at one place stands another count
module _ (counts : List (List ℕ)) (t o : ℕ) (list : List ℕ) (inside : t < length counts) where
  here : (q : ℕ) → count_at (slice_set counts t list) t q ≡ get_or list q 0
  here q = ap (λ (found : List ℕ). get_or found q 0) (set_here counts t list [] inside)

  beside : (u q : ℕ) → (u ≡ t → ⊥) → count_at (slice_set counts t list) u q ≡ count_at counts u q
  beside u q apart = ap (λ (found : List ℕ). get_or found q 0) (set_beside counts t u list [] apart)

  pub raised_at : ((k : ℕ) → get_or list k 0 ≡ get_or (get_or counts t []) k 0 + (if nat_eq o k then 1 else 0)) → (u q : ℕ) → count_at (slice_set counts t list) u q ≡ count_at counts u q + one_for u q (t, o)
  raised_at raised u q =
      elim (cases_eq u t) [
        | inr apart ↦ (let x = beside u q apart in let y = one_apart t o u q (λ there. apart there.0) in omega (arith, x, y))
        | inl same ↦
            (let x = ap (λ n. count_at (slice_set counts t list) n q) same ∙ here q in
            let y = raised q in
            let z = ap (λ n. count_at counts n q) same in
            let w = ap {B = ℕ} (λ (b : Bool). if b && nat_eq o q then 1 else 0) (same_test t u (sym same)) in
            omega (arith, x, y, z, w))
      ]

-- a count one lower
module _ (counts : List (List ℕ)) (t o : ℕ) (some : 0 < count_at counts t o) where
  past_none : {A : Type 0} (xs : List A) (k : ℕ) (d : A) → length xs ≤ k → get_or xs k d ≡ d
  past_none [] k d past = refl
  past_none (x ∷ xs) zero d past = absurd (omega (arith, past))
  past_none (x ∷ xs) (suc k) d past = past_none xs k d (omega (arith, past))

  pub lower_type : t < length counts
  lower_type =
      elim (cases_lt t (length counts)) [
        | inl inside ↦ inside
        | inr past ↦ absurd (let e = ap (λ (list : List ℕ). get_or list o 0) (past_none counts t [] past) in omega (arith, e, some))
      ]

  pub lower_place : o < length (get_or counts t [])
  lower_place =
      elim (cases_lt o (length (get_or counts t []))) [
        | inl inside ↦ inside
        | inr past ↦ absurd (let e = past_none (get_or counts t []) o 0 past in omega (arith, e, some))
      ]

  module _ (count : ℕ) (is : count ≡ count_at counts t o) where
    abbrev after : List (List ℕ)
    after = slice_set counts t (slice_set (get_or counts t []) o (count - 1))

    other : (u q : ℕ) → (IsThere t o u q → ⊥) → count_at after u q ≡ count_at counts u q
    other u q apart =
        elim (cases_eq u t) [
          | inr beside_it ↦ beside counts t o (slice_set (get_or counts t []) o (count - 1)) lower_type u q beside_it
          | inl same ↦
              ap (λ n. count_at after n q) same ∙ here counts t o (slice_set (get_or counts t []) o (count - 1)) lower_type q
              ∙ set_beside (get_or counts t []) o q (count - 1) 0 (λ e. apart (same, e)) ∙ ap (λ n. count_at counts n q) (sym same)
        ]

    pub lowered_at : (u q : ℕ) → count_at after u q + one_for u q (t, o) ≡ count_at counts u q
    lowered_at u q =
        elim (is_there t o u q) [
          | inl there ↦
              (let x = ap (λ n. count_at after n q) there.0 ∙ ap (count_at after t) there.1 ∙ here counts t o (slice_set (get_or counts t []) o (count - 1)) lower_type o ∙ set_here (get_or counts t []) o (count - 1) 0 lower_place in
              let y = one_there t o u q there in
              let z = ap (λ n. count_at counts n q) there.0 ∙ ap (count_at counts t) there.1 in
              omega (arith, x, y, z, is, some))
          | inr apart ↦
              (let y = one_apart t o u q apart in
              let x = other u q apart in
              omega (arith, x, y))
        ]

-- ---- among more rows

pub among_more : (t o : ℕ) (row : ℕ × ℕ) (rows : List (ℕ × ℕ)) → times_among t o (row ∷ rows) ≡ one_for t o row + times_among t o rows
among_more t o row rows = sum_more (λ r. cond (is_row t o r) 1 0) row rows

pub among_push : (t o : ℕ) (rows : List (ℕ × ℕ)) (row : ℕ × ℕ) → times_among t o (rows ++ row ∷ []) ≡ times_among t o rows + one_for t o row
among_push t o [] row = let x : times_among t o (row ∷ []) ≡ one_for t o row + times_among t o [] = among_more t o row [] in omega (arith, x)
among_push t o (r ∷ rows) row =
    let x = among_more t o r (rows ++ row ∷ []) in
    let y = among_more t o r rows in
    let z = among_push t o rows row in
    omega (arith, x, y, z)

-- the first so many, and the next one
pub taken_push : {A : Type 0} (xs : List A) (i : ℕ) (d : A) → i < length xs → take (i + 1) xs ≡ take i xs ++ get_or xs i d ∷ []
taken_push [] i d inside = absurd (omega (arith, inside))
taken_push (x ∷ xs) zero d inside = refl
taken_push (x ∷ xs) (suc i) d inside =
    let e : suc i + 1 ≡ suc (i + 1) = omega arith in
    ap (λ n. take n (x ∷ xs)) e ∙ ap (λ rest. x ∷ rest) (taken_push xs i d (omega (arith, inside)))
