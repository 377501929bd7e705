-- The row of a type before a step, ordinal by ordinal: where the step touched it, and where not.
use Rattle.std.proofs.Common.{◌≡◌, ◌<◌, ◌≤◌, ◌⊎◌, inl, inr, ℕ, zero, suc, List, [], ◌∷◌, length, get_or, Bool, true, false, cond, not, Option, Some, None, Ok, Err, refl, sym, ap, ◌∙◌, subst, arith, eqb, eq-eqb, eqb-true}
use Rattle.std.specs.Prelude.{IsSome, slice_get, zip}
use Rattle.std.specs.List.Sorted.{IsStrictlyIncreasing, IsStrictlySortedBy, IsBinarySearchResult}
use Rattle.std.specs.Ordering.{nat_cmp, eq_by_cmp}
use Rattle.std.specs.declared.cmp.Ordering.TheVariants.{Equal}
use Rattle.std.specs.Cmp.{nat_cmp_total, ranked}
use Rattle.std.specs.FinMap.{find, get, retain_keys, get-insert, get-retain_keys}
use Rattle.std.proofs.lemmas.Bool.{cases_lt, cases_order, false≢true, or_cases, or_left, or_parts, or_right}
use Rattle.std.proofs.lemmas.List.Sorted.{searched}
use Rattle.std.proofs.lemmas.Map.Keys.{below_from_sorted, sorted_from_strictly_increasing}
use Rattle.row_model.specs.declared.row.Row.{Row}
use Rattle.row_model.specs.Table.{RowMap}
use Rattle.row_model.proofs.RowEntries.{skips, finds}
use Rattle.row_model.specs.Before.{PastPart, is_new, left_rows, rows_before, with_rows}
use Rattle.hol_history.specs.Spots.{is_among}
use Rattle.hol_history.specs.Steps.{IsPart, is_touched}

-- ---- ordinals that rise

pub not_below : (xs : List ℕ) → IsStrictlyIncreasing xs → (i j : ℕ) → i ≤ j → j < length xs → get_or xs i 0 ≤ get_or xs j 0
not_below xs rises i j le inside = elim (cases_lt i j) [
  | inl before ↦ let less = below_from_sorted xs i j 0 (sorted_from_strictly_increasing xs rises) before inside in omega arith
  | inr after ↦ let same : i ≡ j = omega arith in subst (λ k. get_or xs i 0 ≤ get_or xs k 0) same (omega arith)
]

-- an ordinal among others stands at a place of them
pub place_among : (xs : List ℕ) (o : ℕ) → is_among xs o ≡ true → (k : ℕ) × (k < length xs) × (get_or xs k 0 ≡ o)
place_among [] o among = absurd (false≢true among)
place_among (x ∷ xs) o among = elim (or_cases (eqb x o) (is_among xs o) among) [
  | inl here ↦ (0, omega arith, eqb-true x o here)
  | inr behind ↦ let (k, inside, at) = place_among xs o behind in (suc k, omega arith, at)
]

pub among_at : (xs : List ℕ) (o k : ℕ) → k < length xs → get_or xs k 0 ≡ o → is_among xs o ≡ true
among_at [] o k inside at = absurd (omega arith)
among_at (x ∷ xs) o zero inside at = or_left (eqb x o) (is_among xs o) (eq-eqb x o at)
among_at (x ∷ xs) o (suc k) inside at = or_right (eqb x o) (is_among xs o) (among_at xs o k (omega arith) at)

-- ---- the rows that left

found : (os : List ℕ) (rs : List Row) (o i : ℕ) (r : Row) → IsStrictlySortedBy nat_cmp os → i < length os → get_or os i 0 ≡ o → slice_get rs i ≡ Some r → find nat_cmp o (zip os rs) ≡ Some r
unfolding IsStrictlySortedBy
found [] rs o i r rises inside is there = absurd (omega arith)
found (x ∷ os) [] o i r rises inside is there = absurd cc
found (x ∷ os) (w ∷ rs) o zero r rises inside is there =
    let here : w ≡ r = cc in
    ap (λ q. find nat_cmp q ((x, w) ∷ zip os rs)) (sym is) ∙ finds (x, w) (zip os rs) ∙ ap Some here
found (x ∷ os) (w ∷ rs) o (suc i) r rises inside is there =
    let above : x < get_or os i 0 = below_from_sorted (x ∷ os) 0 (suc i) 0 rises (omega arith) inside in
    skips o (x, w) (zip os rs) (λ same. omega (arith, same, above, is)) ∙ found os rs o i r rises.1 (omega arith) is there

missed : (os : List ℕ) (rs : List Row) (o : ℕ) → ((k : ℕ) → k < length os → get_or os k 0 ≡ o → ⊥) → find nat_cmp o (zip os rs) ≡ None
missed [] rs o none = refl
missed (x ∷ os) [] o none = refl
missed (x ∷ os) (w ∷ rs) o none = skips o (x, w) (zip os rs) (λ same. none 0 (omega arith) (sym same)) ∙ missed os rs o (λ k inside. none (suc k) (omega arith))

-- what is found stands among the ordinals
pub place_of : (os : List ℕ) (rs : List Row) (o : ℕ) (r : Row) → find nat_cmp o (zip os rs) ≡ Some r → (k : ℕ) × (k < length os) × (get_or os k 0 ≡ o)
place_of [] rs o r is = absurd cc
place_of (x ∷ os) [] o r is = absurd cc
place_of (x ∷ os) (w ∷ rs) o r is = elim (cases_order o x) [
  | inl same ↦ (0, omega arith, sym same)
  | inr apart ↦
      let behind = skips o (x, w) (zip os rs) (λ same. elim apart [ inl l ↦ omega arith | inr g ↦ omega arith ]) in
      let (k, inside, at) = place_of os rs o r (sym behind ∙ is) in
      (suc k, omega arith, at)
]

-- a search among the ordinals that left
pub search_row : (part : PastPart) (gone : List ℕ) (o i : ℕ) (r : Row) → gone ≡ part.gone → IsStrictlyIncreasing part.gone → IsBinarySearchResult (λ y. nat_cmp y o) gone (Ok i) → slice_get part.rows i ≡ Some r
    → find nat_cmp o (left_rows part) ≡ Some r
search_row part gone o i r same rises at there =
    let told = searched gone o (Ok i) at (not_below gone (subst IsStrictlyIncreasing (sym same) rises)) in
    found part.gone part.rows o i r (sorted_from_strictly_increasing part.gone rises) (subst (λ (xs : List ℕ). i < length xs) same told.0) (subst (λ (xs : List ℕ). get_or xs i 0 ≡ o) same told.1) there

pub search_no_row : (part : PastPart) (gone : List ℕ) (o i : ℕ) → gone ≡ part.gone → IsStrictlyIncreasing part.gone → IsBinarySearchResult (λ y. nat_cmp y o) gone (Err i) → find nat_cmp o (left_rows part) ≡ None
search_no_row part gone o i same rises not_at =
    let told = searched gone o (Err i) not_at (not_below gone (subst IsStrictlyIncreasing (sym same) rises)) in
    missed part.gone part.rows o (subst (λ (xs : List ℕ). (k : ℕ) → k < length xs → get_or xs k 0 ≡ o → ⊥) same (λ k inside is. elim (cases_lt k i) [
      | inl before ↦ omega (arith, told.1 k before, is)
      | inr after ↦ omega (arith, told.2 k after inside, is)
    ]))

-- an ordinal that left has a row
pub gone_found : (part : PastPart) (o : ℕ) → IsPart part → is_among part.gone o ≡ true → find nat_cmp o (left_rows part) ≡ None → ⊥
gone_found part o is among none =
    let (k, inside, at) = place_among part.gone o among in
    let there = slice_get_row part.rows k (let long = is.rows in omega arith) in
    let some = found part.gone part.rows o k there.0 (sorted_from_strictly_increasing part.gone is.rising) inside at there.1 in
    absurd cc
  where
    slice_get_row : (rows : List Row) (k : ℕ) → k < length rows → (r : Row) × (slice_get rows k ≡ Some r)
    slice_get_row [] k inside = absurd (omega arith)
    slice_get_row (r ∷ rows) zero inside = (r, refl)
    slice_get_row (r ∷ rows) (suc k) inside = slice_get_row rows k (omega arith)

-- ---- the rows before

-- the first of two, if there is one
abbrev first_of : Option Row → Option Row → Option Row
first_of (Some r) other = Some r
first_of None other = other

get_with : (m : RowMap) (es : List (ℕ × Row)) (q : ℕ) → get (with_rows m es) q ≡ first_of (find nat_cmp q es) (get m q)
unfolding with_rows
get_with m [] q = refl
get_with m (e ∷ es) q =
    get-insert nat_cmp_total (with_rows m es) e.0 e.1 q
    ∙ ap (cond (eq_by_cmp nat_cmp q e.0) (Some e.1)) (get_with m es q)
    ∙ either (eq_by_cmp nat_cmp q e.0) (find nat_cmp q es)
  where
    either : (b : Bool) (o : Option Row) → cond b (Some e.1) (first_of o (get m q)) ≡ first_of (cond b (Some e.1) o) (get m q)
    either true o = refl
    either false o = refl

get_before : (now : RowMap) (part : PastPart) (q : ℕ) → get (rows_before now part) q ≡ first_of (find nat_cmp q (left_rows part)) (cond (not (is_new part q)) (get now q) None)
unfolding rows_before
get_before now part q =
    get_with (retain_keys now (λ o. not (is_new part o))) (left_rows part) q
    ∙ ap (first_of (find nat_cmp q (left_rows part))) (get-retain_keys now (λ o. not (is_new part o)) q (λ other tied. ap (λ o. not (is_new part o)) (sym (ranked q other Equal (sym tied)))))

-- the row that left
pub before_left : (now : RowMap) (part : PastPart) (q : ℕ) (r : Row) → find nat_cmp q (left_rows part) ≡ Some r → get (rows_before now part) q ≡ Some r
before_left now part q r is = get_before now part q ∙ ap (λ (o : Option Row). first_of o (cond (not (is_new part q)) (get now q) None)) is

before_not_left : (now : RowMap) (part : PastPart) (q : ℕ) → find nat_cmp q (left_rows part) ≡ None → get (rows_before now part) q ≡ cond (not (is_new part q)) (get now q) None
before_not_left now part q none = get_before now part q ∙ ap (λ (o : Option Row). first_of o (cond (not (is_new part q)) (get now q) None)) none

-- no row, where one came
pub before_new : (now : RowMap) (part : PastPart) (q : ℕ) → IsPart part → is_touched part q ≡ true → find nat_cmp q (left_rows part) ≡ None → get (rows_before now part) q ≡ None
before_new now part q is touched none = elim (or_cases (is_among part.came q) (is_among part.gone q) touched) [
  | inl came ↦ before_not_left now part q none ∙ ap (λ (b : Bool). cond (not b) (get now q) None) came
  | inr gone ↦ absurd (gone_found part q is gone none)
]

-- the row of now, where the step touched none
pub before_same : (now : RowMap) (part : PastPart) (q : ℕ) → is_touched part q ≡ false → get (rows_before now part) q ≡ get now q
before_same now part q untouched =
    let parts = or_parts (is_among part.came q) (is_among part.gone q) untouched in
    let none = missed part.gone part.rows q (λ k inside at. false≢true (sym parts.1 ∙ among_at part.gone q k inside at)) in
    before_not_left now part q none ∙ ap (λ (b : Bool). cond (not b) (get now q) None) parts.0

-- what was live before left, or is live now
pub live_before : (now : RowMap) (part : PastPart) (q : ℕ) → IsSome (get (rows_before now part) q) → ((k : ℕ) × (k < length part.gone) × (get_or part.gone k 0 ≡ q)) ⊎ IsSome (get now q)
live_before now part q live = by_left (find nat_cmp q (left_rows part)) refl
  where
    by_new : (b : Bool) → is_new part q ≡ b → find nat_cmp q (left_rows part) ≡ None → IsSome (get now q)
    by_new true new none = absurd (false≢true (subst IsSome (before_not_left now part q none ∙ ap (λ (b : Bool). cond (not b) (get now q) None) new) live))
    by_new false old none = subst IsSome (before_not_left now part q none ∙ ap (λ (b : Bool). cond (not b) (get now q) None) old) live

    by_left : (o : Option Row) → find nat_cmp q (left_rows part) ≡ o → ((k : ℕ) × (k < length part.gone) × (get_or part.gone k 0 ≡ q)) ⊎ IsSome (get now q)
    by_left (Some r) is = inl (place_of part.gone part.rows q r is)
    by_left None none = inr (by_new (is_new part q) refl none)
