-- Lemmas on rows by ordinal: what holds of each, and the places up to an ordinal.
use Rattle.std.proofs.Common.{◌≡◌, ℕ, zero, suc, ◌+◌, ◌<◌, ◌≤◌, inl, inr, List, [], ◌∷◌, ◌++◌, length, get_or, Option, Some, None, Bool, true, false, T, leb, refl, sym, ap, ◌∙◌, subst, arith}
use Rattle.std.specs.Prelude.{All, Contains, map, filter, flat_map, sum_by, nat_le, slice_get, is_some, IsSome, IsTrue, ◌↔◌}
use Rattle.std.specs.Option.{option_map, option_map_or, option_to_list}
use Rattle.std.specs.List.{range_with_len}
use Rattle.std.specs.Cmp.{nat_cmp_total, eq_by_cmp_equiv}
use Rattle.std.specs.Ordering.{nat_cmp}
use Rattle.std.specs.FinMap.{find, is_sorted, entries, entries_sorted, get, get-entries, keys, values, contains_key-keys, nat_cmp-IsAntisymmetric}
use Rattle.std.proofs.lemmas.Bool.{and_parts, cases_eq, cond-true, false≢true, le-leb}
use Rattle.std.proofs.lemmas.List.Elements.{All-append, All-cons, All-head, All-map, All-tail}
use Rattle.std.proofs.lemmas.List.FromFn.{length-map-range_with_len, get_or-map-range_with_len}
use Rattle.std.proofs.lemmas.List.Sums.{sum_by-cons}
use Rattle.std.proofs.lemmas.Map.Views.{Contains-from_any, list_any-from_Contains, tells_apart}
use Rattle.std.proofs.lemmas.Option.{slice_get-map, slice_get_within}
use Rattle.row_model.specs.declared.row.Row.{Row}
use Rattle.row_model.specs.Table.{RowMap}
use Rattle.row_model.specs.BothStates.{rows_from}
use Rattle.row_model.proofs.RowEntries.{Entry, AreFrom, skips, finds, from_below, finds_none}
use Rattle.row_model.proofs.RowsFrom.{rows_skip, rows_take, rows_past}
use Rattle.packed_half.specs.Laying.{places_in, EachRowOf}

-- ---- what holds of all

pub all_none : {X : Type 0} (P : X → Type 0) → All P []
all_none P k d inside = absurd (omega arith)

pub all_gives : {X : Type 0} (P Q : X → Type 0) (xs : List X) → ((x : X) → P x → Q x) → All P xs → All Q xs
all_gives P Q [] gives all = all_none Q
all_gives P Q (x ∷ xs) gives all = All-cons Q x xs (gives x (All-head P x xs all)) (all_gives P Q xs gives (All-tail P x xs all))

pub all_joined : {X A : Type 0} (P : A → Type 0) (f : X → List A) (xs : List X) → All (λ x. All P (f x)) xs → All P (flat_map f xs)
all_joined P f [] all = all_none P
all_joined P f (x ∷ xs) all =
    All-append P (f x) (flat_map f xs) (All-head (λ x. All P (f x)) x xs all) (all_joined P f xs (All-tail (λ x. All P (f x)) x xs all))

pub all_images : {X A : Type 0} (P : A → Type 0) (f : X → A) (xs : List X) → All P (map f xs) → All (λ x. P (f x)) xs
all_images P f [] all = all_none (λ x. P (f x))
all_images P f (x ∷ xs) all = All-cons (λ x. P (f x)) x xs (All-head P (f x) (map f xs) all) (all_images P f xs (All-tail P (f x) (map f xs) all))

-- ---- rows that are found

-- what holds of each entry holds of one that is found
found_in : (P : Entry → Type 0) (o : ℕ) (es : List Entry) (row : Row) → find nat_cmp o es ≡ Some row → All P es → P (o, row)
found_in P o [] row is all = absurd cc
found_in P o (e ∷ es) row is all =
    elim (cases_eq o e.0) [
      | inl same ↦
          let here : find nat_cmp o (e ∷ es) ≡ Some e.1 = subst (λ (n : ℕ). find nat_cmp n (e ∷ es) ≡ Some e.1) (sym same) (finds e es) in
          let value : e.1 ≡ row = let both : Some e.1 ≡ Some row = sym here ∙ is in cc in
          subst (λ (r : Row). P (o, r)) value (subst (λ (n : ℕ). P (n, e.1)) (sym same) (All-head P e es all))
      | inr other ↦ found_in P o es row (sym (skips o e es other) ∙ is) (All-tail P e es all)
    ]

pub entry_of : (P : Entry → Type 0) (rows : RowMap) (o : ℕ) (row : Row) → All P (entries rows) → get rows o ≡ Some row → P (o, row)
entry_of P rows o row all found = found_in P o (entries rows) row (sym (get-entries rows o) ∙ found) all

-- so does what holds of each row
pub row_of : (P : Row → Type 0) (rows : RowMap) (o : ℕ) (row : Row) → All P (values rows) → get rows o ≡ Some row → P row
row_of P rows o row all found = entry_of (λ entry. P entry.1) rows o row (all_images P (λ entry. entry.1) (entries rows) all) found

-- what holds of each entry that is found holds of all
all_entries : (P : Entry → Type 0) (es : List Entry) → is_sorted nat_cmp es ≡ true → ((ordinal : ℕ) (row : Row) → find nat_cmp ordinal es ≡ Some row → P (ordinal, row)) → All P es
all_entries P [] sorted each = all_none P
all_entries P (e ∷ es) sorted each =
    let parts = and_parts _ _ sorted in
    let behind = from_below e.0 es parts.0 in
    All-cons P e es (each e.0 e.1 (finds e es))
    (all_entries P es parts.1 (λ ordinal row found. each ordinal row (skips ordinal e es (λ same. not_found ordinal e.0 es row same behind found) ∙ found)))
  where
    not_found : (ordinal first : ℕ) (es : List Entry) (row : Row) → ordinal ≡ first → AreFrom (first + 1) es → find nat_cmp ordinal es ≡ Some row → ⊥
    not_found ordinal first es row same behind found = let none = finds_none ordinal (first + 1) es (omega arith) behind in absurd cc

is_true : (b : Bool) → T b → b ≡ true
is_true true h = refl
is_true false h = absurd h

pub all_found : (P : Entry → Type 0) (rows : RowMap) → ((ordinal : ℕ) (row : Row) → get rows ordinal ≡ Some row → P (ordinal, row)) → All P (entries rows)
all_found P rows each = all_entries P (entries rows) (is_true _ (entries_sorted rows)) (λ ordinal row found. each ordinal row (get-entries rows ordinal ∙ found))

pub all_values : (P : Row → Type 0) (rows : RowMap) → EachRowOf rows P → All P (values rows)
all_values P rows each = All-map P (λ entry. entry.1) (entries rows) (all_found (λ entry. P entry.1) rows each)

-- a row is found under the keys alone
pub key_of : (rows : RowMap) (o : ℕ) → Contains (keys rows) o → IsSome (get rows o)
key_of rows o key = contains_key-keys rows o ∙ list_any-from_Contains (eq_by_cmp_equiv nat_cmp_total) o (keys rows) key

pub key_there : (rows : RowMap) (o : ℕ) → IsSome (get rows o) → Contains (keys rows) o
key_there rows o live = Contains-from_any (tells_apart nat_cmp-IsAntisymmetric) o (keys rows) (sym (contains_key-keys rows o) ∙ live)

-- a set of the keys tells whether a row is found
pub not_found : (rows : RowMap) (live : List ℕ) (o : ℕ) (b : Bool) → keys rows ≡ live → IsTrue b ↔ Contains live o → b ≡ false → None ≡ get rows o
not_found rows live o b are tells is = by_row (get rows o) refl
  where
    by_row : (row : Option Row) → get rows o ≡ row → None ≡ row
    by_row None none = refl
    by_row (Some row) some =
        let member : Contains live o = subst (λ (ks : List ℕ). Contains ks o) are (key_there rows o (ap is_some some)) in
        let held : IsTrue b = tells.1 member in
        absurd (false≢true (subst IsTrue is held))

pub is_found : (rows : RowMap) (live : List ℕ) (o : ℕ) (b : Bool) → keys rows ≡ live → IsTrue b ↔ Contains live o → b ≡ true → IsSome (get rows o)
is_found rows live o b are tells is = key_of rows o (subst (λ (ks : List ℕ). Contains ks o) (sym are) (tells.0 is))

-- ---- the places

pub places_long : (rows : RowMap) (count : ℕ) → length (places_in rows count) ≡ count
places_long rows count = length-map-range_with_len (get rows) 0 count

range_at : (from count index : ℕ) → index < count → slice_get (range_with_len from count) index ≡ Some (from + index)
range_at from zero index inside = absurd (omega arith)
range_at from (suc count) zero inside = let e : from ≡ from + 0 = omega arith in ap Some e
range_at from (suc count) (suc index) inside = let e : from + 1 + index ≡ from + suc index = omega arith in range_at (from + 1) count index (omega arith) ∙ ap Some e

pub place_at : (rows : RowMap) (count place : ℕ) → place < count → slice_get (places_in rows count) place ≡ Some (get rows place)
place_at rows count place inside =
    let e : 0 + place ≡ place = omega arith in
    slice_get-map (get rows) (range_with_len 0 count) place ∙ ap (option_map (get rows)) (range_at 0 count place inside ∙ ap Some e)

-- what stands at a place is the row of its ordinal
pub place_is : (rows : RowMap) (count place : ℕ) (row : Option Row) → slice_get (places_in rows count) place ≡ Some row → row ≡ get rows place
place_is rows count place row at =
    let inside : place < count = let within = slice_get_within (places_in rows count) place row at in let long = places_long rows count in omega arith in
    let both : Some row ≡ Some (get rows place) = sym at ∙ place_at rows count place inside in
    cc

pub place_or : (rows : RowMap) (count place : ℕ) (d : Option Row) → place < count → get rows place ≡ get_or (places_in rows count) place d
place_or rows count place d inside = sym (get_or-map-range_with_len (get rows) 0 count place place d inside (omega arith))

-- what holds of each row holds of each place's
pub all_places : (P : Option Row → Type 0) (rows : RowMap) (count : ℕ) → ((o : ℕ) → P (get rows o)) → All P (places_in rows count)
all_places P rows count each = All-map P (get rows) (range_with_len 0 count) (each_of (range_with_len 0 count))
  where
    each_of : (os : List ℕ) → All (λ o. P (get rows o)) os
    each_of [] = all_none (λ o. P (get rows o))
    each_of (o ∷ os) = All-cons (λ o. P (get rows o)) o os (each o) (each_of os)

-- the rows from an ordinal on are those of the places from it on
one_on : (rows : RowMap) (row : Option Row) (ordinal : ℕ) → get rows ordinal ≡ row → rows_from ordinal rows ≡ option_to_list row ++ rows_from (ordinal + 1) rows
one_on rows None ordinal none = rows_skip rows ordinal (ordinal + 1) (omega arith) (λ q from before. let at : ordinal ≡ q = omega arith in subst (λ (k : ℕ). get rows k ≡ None) at none)
one_on rows (Some row) ordinal some = rows_take rows ordinal row some

rows_on : (rows : RowMap) (limit gap from : ℕ) → from + gap ≡ limit → ((o : ℕ) → limit ≤ o → get rows o ≡ None)
    → rows_from from rows ≡ flat_map option_to_list (map (get rows) (range_with_len from gap))
rows_on rows limit zero from is past = rows_past rows from (λ q reached. past q (omega arith))
rows_on rows limit (suc gap) from is past =
    one_on rows (get rows from) from refl ∙ ap (λ (rest : List Row). option_to_list (get rows from) ++ rest) (rows_on rows limit gap (from + 1) (omega arith) past)

-- a row that is found has a place
pub placed_in : (rows : RowMap) (limit o : ℕ) (row : Row) → All (λ ordinal. ordinal < limit) (keys rows) → get rows o ≡ Some row → o < limit
placed_in rows limit o row below found = entry_of (λ entry. entry.0 < limit) rows o row (all_images (λ ordinal. ordinal < limit) (λ entry. entry.0) (entries rows) below) found

-- no row is found past the keys
none_past : (rows : RowMap) (limit o : ℕ) → All (λ ordinal. ordinal < limit) (keys rows) → limit ≤ o → get rows o ≡ None
none_past rows limit o below past = by_row (get rows o) refl
  where
    by_row : (row : Option Row) → get rows o ≡ row → row ≡ None
    by_row None is = refl
    by_row (Some row) is =
        let inside = placed_in rows limit o row below is in
        absurd (omega arith)

filter_all : (es : List Entry) → filter (λ entry. nat_le 0 entry.0) es ≡ es
filter_all [] = refl
filter_all (e ∷ es) =
    cond-true (leb 0 e.0) (e ∷ filter (λ entry. nat_le 0 entry.0) es) (filter (λ entry. nat_le 0 entry.0) es) (le-leb 0 e.0 (omega arith))
    ∙ ap (λ (rest : List Entry). e ∷ rest) (filter_all es)

values_all : (rows : RowMap) → rows_from 0 rows ≡ values rows
unfolding rows_from
values_all rows = ap (map (λ entry. entry.1)) (filter_all (entries rows))

-- the rows are those of the places
pub values_places : (rows : RowMap) (count : ℕ) → All (λ ordinal. ordinal < count) (keys rows) → values rows ≡ flat_map option_to_list (places_in rows count)
values_places rows count below = sym (values_all rows) ∙ rows_on rows count count 0 (omega arith) (λ o past. none_past rows count o below past)

-- ---- what places have together

-- what a number of rows is at a place, 0 where it has no row
abbrev pub at_place : (Row → ℕ) → Option Row → ℕ
at_place f row = option_map_or f row 0

pub sum_places : (f : Row → ℕ) (g : Option Row → ℕ) → ((row : Option Row) → g row ≡ at_place f row) → (places : List (Option Row)) → sum_by g places ≡ sum_by f (flat_map option_to_list places)
sum_places f g same [] = refl
sum_places f g same (None ∷ places) = omega (arith, sum_by-cons g None places, same None, sum_places f g same places)
sum_places f g same (Some row ∷ places) =
    omega (arith, sum_by-cons g (Some row) places, same (Some row), sum_by-cons f row (flat_map option_to_list places), sum_places f g same places)

-- sums are one where each two numbers are
pub sum_where : {X : Type 0} (P : X → Type 0) (f g : X → ℕ) (xs : List X) → ((x : X) → P x → f x ≡ g x) → All P xs → sum_by f xs ≡ sum_by g xs
sum_where P f g [] same all = refl
sum_where P f g (x ∷ xs) same all = omega (arith, sum_by-cons f x xs, sum_by-cons g x xs, same x (All-head P x xs all), sum_where P f g xs same (All-tail P x xs all))
