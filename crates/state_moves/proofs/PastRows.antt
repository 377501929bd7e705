-- The rows before the last step, ordinal by ordinal.
use Rattle.std.proofs.Common.{◌≡◌, ◌<◌, ◌≤◌, ◌+◌, ◌-◌, ◌⊎◌, inl, inr, ℕ, zero, suc, List, [], ◌∷◌, length, get_or, Bool, true, false, cond, Option, Some, None, Result, Ok, Err, refl, sym, ap, ◌∙◌, subst, arith, eqb, eq-eqb, eqb-true}
use Rattle.std.specs.Prelude.{IsSome, IsSomeAnd, slice_get, zip, not, is_ok, MatchResult, ◌||◌, ◌↔◌, IsTrue, IfOk}
use Rattle.std.specs.List.{list_any}
use Rattle.std.specs.declared.alloc.AllocError.{AllocError}
use Rattle.std.specs.List.Sorted.{IsStrictlyIncreasing, IsStrictlySortedBy, IsBinarySearchResult}
use Rattle.std.specs.Ordering.{nat_cmp, eq_by_cmp}
use Rattle.std.specs.declared.cmp.Ordering.TheVariants.{Equal}
use Rattle.std.specs.Cmp.{nat_cmp_total, ranked}
use Rattle.std.specs.FinMap.{find, get, retain_keys, get-insert, get-retain_keys}
use Rattle.std.proofs.lemmas.Bool.{cases_lt, cases_order, false_from_ne_true, false≢true}
use Rattle.std.proofs.lemmas.List.Sorted.{searched}
use Rattle.std.proofs.lemmas.Option.{get_or_from_slice_get, slice_get-get_or, slice_get_within}
use Rattle.std.proofs.lemmas.Map.Keys.{below_from_sorted, sorted_from_strictly_increasing}
use Rattle.row_model.specs.declared.row.Row.{Row}
use Rattle.row_model.specs.Table.{RowMap}
use Rattle.row_model.proofs.RowEntries.{skips, finds}
use Rattle.row_model.specs.Before.{PastPart, is_new, left_rows, rows_before, with_rows}
use Rattle.column_rows.specs.OneType.{IsRowsBound}
use Rattle.state_moves.specs.Past.{IsLeftAt}

-- ---- numbers that rise

pub not_below : (xs : List ℕ) → IsStrictlyIncreasing xs → (i j : ℕ) → i ≤ j → j < length xs → get_or xs i 0 ≤ get_or xs j 0
not_below xs rises i j le inside = elim (cases_lt i j) [
  | inl before ↦ let less = below_from_sorted xs i j 0 (sorted_from_strictly_increasing xs rises) before inside in omega arith
  | inr after ↦ let same : i ≡ j = omega arith in subst (λ k. get_or xs i 0 ≤ get_or xs k 0) same (omega arith)
]

pub any_at : (xs : List ℕ) (o i : ℕ) → i < length xs → get_or xs i 0 ≡ o → list_any (λ n. eqb n o) xs ≡ true
any_at [] o i inside is = absurd (omega arith)
any_at (x ∷ xs) o zero inside is = ap (λ (b : Bool). b || list_any (λ n. eqb n o) xs) (eq-eqb x o is)
any_at (x ∷ xs) o (suc i) inside is = elim (eqb x o) as (λ b. (b || list_any (λ n. eqb n o) xs) ≡ true) [ true ↦ refl | false ↦ any_at xs o i (omega arith) is ]

pub any_none : (xs : List ℕ) (o : ℕ) → ((k : ℕ) → k < length xs → get_or xs k 0 ≡ o → ⊥) → list_any (λ n. eqb n o) xs ≡ false
any_none [] o none = refl
any_none (x ∷ xs) o none =
    ap (λ (b : Bool). b || list_any (λ n. eqb n o) xs) (false_from_ne_true (eqb x o) (λ t. none 0 (omega arith) (eqb-true x o t)))
    ∙ any_none xs o (λ k inside. none (suc k) (omega arith))

-- a search among the ordinals that came
pub search_new : (part : PastPart) (came : List ℕ) (o : ℕ) (r : Result ℕ ℕ) → came ≡ part.came → IsStrictlyIncreasing part.came → IsBinarySearchResult (λ y. nat_cmp y o) came r → is_ok r ≡ is_new part o
search_new part came o r same rises found =
    let told = searched came o r found (not_below came (subst IsStrictlyIncreasing (sym same) rises)) in
    of_result r told ∙ ap (λ (xs : List ℕ). list_any (λ n. eqb n o) xs) same
  where
    of_result : (r : Result ℕ ℕ) → MatchResult r (λ i. (i < length came) × (get_or came i 0 ≡ o)) (λ i. (i ≤ length came) × ((k : ℕ) → k < i → get_or came k 0 < o) × ((k : ℕ) → i ≤ k → k < length came → o < get_or came k 0)) → is_ok r ≡ list_any (λ n. eqb n o) came
    of_result (Ok i) (inside, is) = sym (any_at came o i inside is)
    of_result (Err i) (last, below, above) = sym (any_none came o (λ k inside is. elim (cases_lt k i) [
      | inl before ↦ omega (arith, below k before, is)
      | inr after ↦ omega (arith, above k after inside, is)
    ]))

-- ---- the rows that left

pub found : (os : List ℕ) (rs : List Row) (o i : ℕ) (r : Row) → IsStrictlySortedBy nat_cmp os → i < length os → get_or os i 0 ≡ o → slice_get rs i ≡ Some r → find nat_cmp o (zip os rs) ≡ Some r
unfolding IsStrictlySortedBy
found [] rs o i r rises inside is there = absurd (omega arith)
found (x ∷ os) [] o i r rises inside is there = absurd cc
found (x ∷ os) (w ∷ rs) o zero r rises inside is there =
    let here : w ≡ r = cc in
    ap (λ q. find nat_cmp q ((x, w) ∷ zip os rs)) (sym is) ∙ finds (x, w) (zip os rs) ∙ ap Some here
found (x ∷ os) (w ∷ rs) o (suc i) r rises inside is there =
    let above : x < get_or os i 0 = below_from_sorted (x ∷ os) 0 (suc i) 0 rises (omega arith) inside in
    skips o (x, w) (zip os rs) (λ same. omega (arith, same, above, is)) ∙ found os rs o i r rises.1 (omega arith) is there

pub missed : (os : List ℕ) (rs : List Row) (o : ℕ) → ((k : ℕ) → k < length os → get_or os k 0 ≡ o → ⊥) → find nat_cmp o (zip os rs) ≡ None
missed [] rs o none = refl
missed (x ∷ os) [] o none = refl
missed (x ∷ os) (w ∷ rs) o none = skips o (x, w) (zip os rs) (λ same. none 0 (omega arith) (sym same)) ∙ missed os rs o (λ k inside. none (suc k) (omega arith))

pub search_left : (part : PastPart) (gone : List ℕ) (o i : ℕ) → gone ≡ part.gone → IsStrictlyIncreasing part.gone → length part.rows ≡ length part.gone → IsBinarySearchResult (λ y. nat_cmp y o) gone (Ok i) → IsLeftAt part o i
search_left part gone o i same rises long at =
    let told = searched gone o (Ok i) at (not_below gone (subst IsStrictlyIncreasing (sym same) rises)) in
    let among : i < length part.gone = subst (λ (xs : List ℕ). i < length xs) same told.0 in
    let inside : i < length part.rows = omega (arith, among, long) in
    let there = slice_get-get_or part.rows i (Row.List []) inside in
    record {
      inside = inside;
      row = found part.gone part.rows o i (get_or part.rows i (Row.List [])) (sorted_from_strictly_increasing part.gone rises) among (subst (λ (xs : List ℕ). get_or xs i 0 ≡ o) same told.1) there ∙ sym there;
    }

pub search_no_left : (part : PastPart) (gone : List ℕ) (o i : ℕ) → gone ≡ part.gone → IsStrictlyIncreasing part.gone → IsBinarySearchResult (λ y. nat_cmp y o) gone (Err i) → find nat_cmp o (left_rows part) ≡ None
search_no_left part gone o i same rises not_at =
    let told = searched gone o (Err i) not_at (not_below gone (subst IsStrictlyIncreasing (sym same) rises)) in
    missed part.gone part.rows o (subst (λ (xs : List ℕ). (k : ℕ) → k < length xs → get_or xs k 0 ≡ o → ⊥) same (λ k inside is. elim (cases_lt k i) [
      | inl before ↦ omega (arith, told.1 k before, is)
      | inr after ↦ omega (arith, told.2 k after inside, is)
    ]))

-- what is found stands among the ordinals
pub place_of : (os : List ℕ) (rs : List Row) (o : ℕ) (r : Row) → find nat_cmp o (zip os rs) ≡ Some r → (k : ℕ) × (k < length os) × (get_or os k 0 ≡ o)
place_of [] rs o r is = absurd cc
place_of (x ∷ os) [] o r is = absurd cc
place_of (x ∷ os) (w ∷ rs) o r is = elim (cases_order o x) [
  | inl same ↦ (0, omega arith, sym same)
  | inr apart ↦
      let behind = skips o (x, w) (zip os rs) (λ same. elim apart [ inl l ↦ omega arith | inr g ↦ omega arith ]) in
      let (k, inside, at) = place_of os rs o r (sym behind ∙ is) in
      (suc k, omega arith, at)
]

-- ---- the rows before

-- the first of two, if there is one
abbrev pub first_of : Option Row → Option Row → Option Row
first_of (Some r) other = Some r
first_of None other = other

pub get_with : (m : RowMap) (es : List (ℕ × Row)) (q : ℕ) → get (with_rows m es) q ≡ first_of (find nat_cmp q es) (get m q)
unfolding with_rows
get_with m [] q = refl
get_with m (e ∷ es) q =
    get-insert nat_cmp_total (with_rows m es) e.0 e.1 q
    ∙ ap (cond (eq_by_cmp nat_cmp q e.0) (Some e.1)) (get_with m es q)
    ∙ either (eq_by_cmp nat_cmp q e.0) (find nat_cmp q es)
  where
    either : (b : Bool) (o : Option Row) → cond b (Some e.1) (first_of o (get m q)) ≡ first_of (cond b (Some e.1) o) (get m q)
    either true o = refl
    either false o = refl

pub get_before : (now : RowMap) (part : PastPart) (q : ℕ) → get (rows_before now part) q ≡ first_of (find nat_cmp q (left_rows part)) (cond (not (is_new part q)) (get now q) None)
unfolding rows_before
get_before now part q =
    get_with (retain_keys now (λ o. not (is_new part o))) (left_rows part) q
    ∙ ap (first_of (find nat_cmp q (left_rows part))) (get-retain_keys now (λ o. not (is_new part o)) q (λ other tied. ap (λ o. not (is_new part o)) (sym (ranked q other Equal (sym tied)))))

pub before_left : (now : RowMap) (part : PastPart) (q : ℕ) (r : Row) → find nat_cmp q (left_rows part) ≡ Some r → get (rows_before now part) q ≡ Some r
before_left now part q r is = get_before now part q ∙ ap (λ (o : Option Row). first_of o (cond (not (is_new part q)) (get now q) None)) is

pub before_not_left : (now : RowMap) (part : PastPart) (q : ℕ) → find nat_cmp q (left_rows part) ≡ None → get (rows_before now part) q ≡ cond (not (is_new part q)) (get now q) None
before_not_left now part q none = get_before now part q ∙ ap (λ (o : Option Row). first_of o (cond (not (is_new part q)) (get now q) None)) none

pub before_kept : (now : RowMap) (part : PastPart) (q : ℕ) → find nat_cmp q (left_rows part) ≡ None → is_new part q ≡ false → get (rows_before now part) q ≡ get now q
before_kept now part q none old = before_not_left now part q none ∙ ap (λ (b : Bool). cond (not b) (get now q) None) old

pub before_new : (now : RowMap) (part : PastPart) (q : ℕ) → find nat_cmp q (left_rows part) ≡ None → is_new part q ≡ true → get (rows_before now part) q ≡ None
before_new now part q none new = before_not_left now part q none ∙ ap (λ (b : Bool). cond (not b) (get now q) None) new

-- what was live before left, or is live now and did not come
pub live_before : (now : RowMap) (part : PastPart) (q : ℕ) → IsSome (get (rows_before now part) q) → ((r : Row) × (find nat_cmp q (left_rows part) ≡ Some r)) ⊎ ((find nat_cmp q (left_rows part) ≡ None) × (is_new part q ≡ false) × IsSome (get now q))
live_before now part q live = by_left (find nat_cmp q (left_rows part)) refl
  where
    by_new : (b : Bool) → is_new part q ≡ b → find nat_cmp q (left_rows part) ≡ None → (is_new part q ≡ false) × IsSome (get now q)
    by_new true new none = absurd (false≢true (subst IsSome (before_new now part q none new) live))
    by_new false old none = (old, subst IsSome (before_kept now part q none old) live)

    by_left : (o : Option Row) → find nat_cmp q (left_rows part) ≡ o → ((r : Row) × (find nat_cmp q (left_rows part) ≡ Some r)) ⊎ ((find nat_cmp q (left_rows part) ≡ None) × (is_new part q ≡ false) × IsSome (get now q))
    by_left (Some r) is = inl (r, is)
    by_left None none = let is = by_new (is_new part q) refl none in inr (none, is.0, is.1)

-- ---- bounds

pub above_before : (now : RowMap) (part : PastPart) (bound most : ℕ) → IsRowsBound now bound → bound ≤ most → ((k : ℕ) → k < length part.gone → get_or part.gone k 0 < most) → (o : ℕ) → IsSome (get (rows_before now part) o) → o < most
above_before now part bound most is le gone o live = elim (live_before now part o live) [
  | inl (r, there) ↦ let (k, inside, at) = place_of part.gone part.rows o r there in omega (arith, gone k inside, at)
  | inr (none, old, here) ↦ omega (arith, is.above o here, le)
]

-- ---- what the looking up answers

pub left_live : (now : RowMap) (part : PastPart) (q : ℕ) (r : Row) → find nat_cmp q (left_rows part) ≡ Some r → IsSome (get (rows_before now part) q)
left_live now part q r is = subst IsSome (sym (before_left now part q r is)) refl

pub not_new_live : (now : RowMap) (part : PastPart) (q : ℕ) (new live : Bool) → find nat_cmp q (left_rows part) ≡ None → new ≡ is_new part q → new ≡ false → (IsTrue live ↔ IsSome (get now q))
    → (IsTrue live ↔ IsSome (get (rows_before now part) q))
not_new_live now part q new live none is old are =
    let same = before_kept now part q none (sym is ∙ old) in
    (λ t. subst IsSome (sym same) (are.0 t), λ l. are.1 (subst IsSome same l))

pub new_not_live : (now : RowMap) (part : PastPart) (q : ℕ) (new : Bool) → find nat_cmp q (left_rows part) ≡ None → new ≡ is_new part q → new ≡ true → (IsTrue (not new) ↔ IsSome (get (rows_before now part) q))
new_not_live now part q new none is came =
    (λ t. absurd (false≢true (sym (ap not came) ∙ t)), λ l. absurd (false≢true (subst IsSome (before_new now part q none (sym is ∙ came)) l)))

pub left_at_live : (now : RowMap) (part : PastPart) (q place : ℕ) → IsLeftAt part q place → IsSome (get (rows_before now part) q)
left_at_live now part q place left = left_live now part q (get_or part.rows place (Row.List [])) (left.row ∙ slice_get-get_or part.rows place (Row.List []) left.inside)

-- the row that is given of a place
pub left_given : {T : Type 0} (row_of : T → Row) (now : RowMap) (part : PastPart) (q place : ℕ) (rows : List Row) (answer : Result T AllocError) → IsLeftAt part q place → rows ≡ part.rows
    → IfOk answer (λ given. slice_get rows place ≡ Some (row_of given)) → IfOk answer (λ given. get (rows_before now part) q ≡ Some (row_of given))
left_given row_of now part q place rows (Ok given) left same is = before_left now part q (row_of given) (left.row ∙ ap (λ (rs : List Row). slice_get rs place) (sym same) ∙ is)
left_given row_of now part q place rows (Err e) left same is = tt

pub live_kept : (now : RowMap) (part : PastPart) (q : ℕ) → find nat_cmp q (left_rows part) ≡ None → IsSome (get (rows_before now part) q) → IsSome (get now q) × (get (rows_before now part) q ≡ get now q)
live_kept now part q none live = elim (live_before now part q live) [
  | inl (r, there) ↦ absurd (not_both none there)
  | inr (other, old, is) ↦ (is, before_kept now part q none old)
]
  where
    not_both : {r : Row} → find nat_cmp q (left_rows part) ≡ None → find nat_cmp q (left_rows part) ≡ Some r → ⊥
    not_both n s = cc

-- ---- the last of numbers that rise

pub above_last : (gone : List ℕ) (last : ℕ) → IsStrictlyIncreasing gone → Some last ≡ slice_get gone (length gone - 1) → (k : ℕ) → k < length gone → get_or gone k 0 < last + 1
above_last gone last rises is k inside =
    let le = not_below gone rises k (length gone - 1) (omega arith) (omega arith) in
    let at = get_or_from_slice_get gone (length gone - 1) last 0 (sym is) in
    omega (arith, le, at)

pub no_last : (gone : List ℕ) (most : ℕ) → None ≡ slice_get gone (length gone - 1) → (k : ℕ) → k < length gone → get_or gone k 0 < most
no_last gone most is k inside = let at = slice_get-get_or gone (length gone - 1) 0 (omega arith) in absurd cc

-- ---- what left of each type

pub there_within : {A : Type 0} (xs : List A) (i : ℕ) (P : A → Type 0) → IsSomeAnd (slice_get xs i) P → i < length xs
there_within {A} xs i P some = of_found (slice_get xs i) refl some
  where
    of_found : (o : Option A) → slice_get xs i ≡ o → IsSomeAnd o P → i < length xs
    of_found None is some = absurd some
    of_found (Some x) is some = slice_get_within xs i x is

pub left_there : (past : List PastPart) (t index : ℕ) (part : PastPart) (rows : List Row) (answer : Result Row AllocError) → slice_get past t ≡ Some part → rows ≡ part.rows → IfOk answer (λ row. slice_get rows index ≡ Some row)
    → IfOk answer (λ row. IsSomeAnd (slice_get past t) (λ found. slice_get found.rows index ≡ Some row))
left_there past t index part rows (Ok row) there same is =
    subst (λ (found : Option PastPart). IsSomeAnd found (λ one. slice_get one.rows index ≡ Some row)) (sym there) (ap (λ (rs : List Row). slice_get rs index) (sym same) ∙ is)
left_there past t index part rows (Err e) there same is = tt
