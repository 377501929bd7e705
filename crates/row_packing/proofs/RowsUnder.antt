-- Lemmas on the rows under rising ordinals, by those of two states: what they have together, and what holds of each.
use Rattle.std.proofs.Common.{◌≡◌, ℕ, zero, suc, ◌+◌, ◌-◌, ◌<◌, ◌≤◌, List, [], ◌∷◌, ◌++◌, Option, Some, None, Bool, true, false, T, leb, refl, sym, ap, ◌∙◌, subst, arith}
use Rattle.std.specs.Prelude.{All, map, filter, nat_le, sum_by, is_some, IfSome, slice_get}
use Rattle.std.specs.Option.{option_map_or, option_to_list}
use Rattle.std.specs.List.{range_with_len}
use Rattle.std.specs.Ordering.{nat_cmp}
use Rattle.std.specs.FinMap.{find, is_sorted, entries, entries_sorted, get, get-entries, values}
use Rattle.std.proofs.lemmas.Bool.{and_parts, cond-true, le-leb}
use Rattle.std.proofs.lemmas.List.Sums.{sum_by-append, sum_by-cons}
use Rattle.std.proofs.lemmas.List.Elements.{All-append, All-cons, All-head, All-map, All-tail}
use Rattle.row_model.specs.declared.row.Row.{Row}
use Rattle.row_model.proofs.RowEntries.{Entry, AreFrom, skips, finds, from_below, finds_none}
use Rattle.row_model.specs.Table.{RowMap, Table, row_at}
use Rattle.row_model.specs.BothStates.{rows_in, rows_added, rows_from, rows_of_both}
use Rattle.row_model.proofs.RowsFrom.{rows_skip, rows_take, rows_past, get_in, added_some, added_none, added_live}
use Rattle.row_packing.specs.Places.{places_under, Agree}
use Rattle.row_packing.proofs.Greatest.{all_left, all_right}

-- what a number of rows is at a place, 0 where it has no row
abbrev pub at_place : (Row → ℕ) → Option Row → ℕ
at_place f row = option_map_or f row 0

-- the ordinals rise, from this one on
abbrev pub RiseFrom : ℕ → List ℕ → Type 0
RiseFrom from [] = Unit {0}
RiseFrom from (ordinal ∷ rest) = (from ≤ ordinal) × RiseFrom (ordinal + 1) rest

-- ---- the rows of one map

-- the rows from an ordinal on are the one under it, if there is one, and those behind
pub rows_here : (rows : RowMap) (row : Option Row) (ordinal : ℕ) → get rows ordinal ≡ row → rows_from ordinal rows ≡ option_to_list row ++ rows_from (ordinal + 1) rows
rows_here rows None ordinal none = rows_skip rows ordinal (ordinal + 1) (omega arith) (λ q from before. let at : ordinal ≡ q = omega arith in subst (λ (k : ℕ). get rows k ≡ None) at none)
rows_here rows (Some row) ordinal some = rows_take rows ordinal row some

sum_one : (f : Row → ℕ) (row : Option Row) → sum_by f (option_to_list row) ≡ at_place f row
sum_one f None = refl
sum_one f (Some row) = omega arith

sum_here : (f : Row → ℕ) (rows : RowMap) (ordinal : ℕ) → sum_by f (rows_from ordinal rows) ≡ at_place f (get rows ordinal) + sum_by f (rows_from (ordinal + 1) rows)
sum_here f rows ordinal =
    ap (sum_by f) (rows_here rows (get rows ordinal) ordinal refl)
    ∙ sum_by-append f (option_to_list (get rows ordinal)) (rows_from (ordinal + 1) rows)
    ∙ ap (λ n. n + sum_by f (rows_from (ordinal + 1) rows)) (sum_one f (get rows ordinal))

-- from a later ordinal on there are fewer
sum_later : (f : Row → ℕ) (rows : RowMap) (low gap high : ℕ) → low + gap ≡ high → sum_by f (rows_from high rows) ≤ sum_by f (rows_from low rows)
sum_later f rows low zero high is =
    let same : high ≡ low = omega arith in
    let e = ap (λ o. sum_by f (rows_from o rows)) same in
    omega (arith, e)
sum_later f rows low (suc gap) high is =
    let behind = sum_later f rows (low + 1) gap high (omega arith) in
    omega (arith, behind, sum_here f rows low)

pub sum_under : (f : Row → ℕ) (rows : RowMap) (from : ℕ) (ordinals : List ℕ) → RiseFrom from ordinals → sum_by (at_place f) (map (get rows) ordinals) ≤ sum_by f (rows_from from rows)
sum_under f rows from [] rise = omega arith
sum_under f rows from (ordinal ∷ rest) rise =
    let step = sum_by-cons (at_place f) (get rows ordinal) (map (get rows) rest) in
    let behind = sum_under f rows (ordinal + 1) rest rise.1 in
    let gap : (k : ℕ) × (from + k ≡ ordinal) = (ordinal - from, omega (arith, rise.0)) in
    let before = sum_later f rows from gap.0 ordinal gap.1 in
    omega (arith, step, behind, before, sum_here f rows ordinal)

-- what holds of all rows holds of those from a later ordinal on
all_behind : (P : Row → Type 0) (row : Option Row) (rest : List Row) → All P (option_to_list row ++ rest) → All P rest
all_behind P None rest all = all
all_behind P (Some row) rest all = All-tail P row rest all

all_later : (P : Row → Type 0) (rows : RowMap) (low gap high : ℕ) → low + gap ≡ high → All P (rows_from low rows) → All P (rows_from high rows)
all_later P rows low zero high is all =
    let same : low ≡ high = omega arith in
    subst (λ o. All P (rows_from o rows)) same all
all_later P rows low (suc gap) high is all =
    all_later P rows (low + 1) gap high (omega arith)
    (all_behind P (get rows low) (rows_from (low + 1) rows) (subst (All P) (rows_here rows (get rows low) low refl) all))

pub each_in : (P : Row → Type 0) (rows : RowMap) (ordinal : ℕ) (row : Row) → All P (rows_from 0 rows) → get rows ordinal ≡ Some row → P row
each_in P rows ordinal row all found =
    All-head P row (rows_from (ordinal + 1) rows)
    (subst (All P) (rows_here rows (Some row) ordinal found) (all_later P rows 0 ordinal ordinal (omega arith) all))

-- what holds of each entry that is found holds of all
all_entries : (P : Entry → Type 0) (es : List Entry) → is_sorted nat_cmp es ≡ true → ((ordinal : ℕ) (row : Row) → find nat_cmp ordinal es ≡ Some row → P (ordinal, row)) → All P es
all_entries P [] sorted each = λ k d inside. absurd (omega arith)
all_entries P (e ∷ es) sorted each =
    let parts = and_parts _ _ sorted in
    let behind = from_below e.0 es parts.0 in
    All-cons P e es (each e.0 e.1 (finds e es))
    (all_entries P es parts.1 (λ ordinal row found. each ordinal row (skips ordinal e es (λ same. not_found ordinal e.0 es row same behind found) ∙ found)))
  where
    not_found : (ordinal first : ℕ) (es : List Entry) (row : Row) → ordinal ≡ first → AreFrom (first + 1) es → find nat_cmp ordinal es ≡ Some row → ⊥
    not_found ordinal first es row same behind found = let none = finds_none ordinal (first + 1) es (omega arith) behind in absurd cc

is_true : (b : Bool) → T b → b ≡ true
is_true true h = refl
is_true false h = absurd h

pub all_found : (P : Entry → Type 0) (rows : RowMap) → ((ordinal : ℕ) (row : Row) → get rows ordinal ≡ Some row → P (ordinal, row)) → All P (entries rows)
all_found P rows each = all_entries P (entries rows) (is_true _ (entries_sorted rows)) (λ ordinal row found. each ordinal row (get-entries rows ordinal ∙ found))

filter_all : (es : List Entry) → filter (λ entry. nat_le 0 entry.0) es ≡ es
filter_all [] = refl
filter_all (e ∷ es) =
    cond-true (leb 0 e.0) (e ∷ filter (λ entry. nat_le 0 entry.0) es) (filter (λ entry. nat_le 0 entry.0) es) (le-leb 0 e.0 (omega arith))
    ∙ ap (λ (rest : List Entry). e ∷ rest) (filter_all es)

pub values_all : (rows : RowMap) → rows_from 0 rows ≡ values rows
unfolding rows_from
values_all rows = ap (map (λ entry. entry.1)) (filter_all (entries rows))

pub all_in : (P : Row → Type 0) (rows : RowMap) → ((ordinal : ℕ) (row : Row) → get rows ordinal ≡ Some row → P row) → All P (rows_from 0 rows)
all_in P rows each = subst (All P) (sym (values_all rows)) (All-map P (λ entry. entry.1) (entries rows) (all_found (λ entry. P entry.1) rows each))

-- ---- the rows of two states

-- the rows that the new state adds are rows of it
added_row : (old new : Table) (type_index ordinal : ℕ) (row : Row) → get (rows_added old new type_index) ordinal ≡ Some row → row_at new type_index ordinal ≡ Some row
added_row old new type_index ordinal row found = by_new (row_at new type_index ordinal) refl (row_at old type_index ordinal) refl
  where
    by_new : (b : Option Row) → row_at new type_index ordinal ≡ b → (a : Option Row) → row_at old type_index ordinal ≡ a → b ≡ Some row
    by_new None is a was = let none = added_none old new type_index ordinal is in absurd cc
    by_new (Some b) is None was =
        let some = added_some old new type_index ordinal b (λ live. let none = sym live ∙ ap is_some was in absurd cc) is in
        sym some ∙ found
    by_new (Some b) is (Some a) was = let none = added_live old new type_index ordinal (ap is_some was) in absurd cc

-- what holds of each row of each state holds of the rows of both
pub all_both : (P : Row → Type 0) (old new : Table) (type_index : ℕ) → ((ordinal : ℕ) (row : Row) → row_at old type_index ordinal ≡ Some row → P row)
    → ((ordinal : ℕ) (row : Row) → row_at new type_index ordinal ≡ Some row → P row) → All P (rows_of_both old new type_index)
all_both P old new type_index of_old of_new =
    All-append P (rows_from 0 (rows_in old type_index)) (rows_from 0 (rows_added old new type_index))
    (all_in P (rows_in old type_index) (λ ordinal row found. of_old ordinal row (sym (get_in old type_index ordinal) ∙ found)))
    (all_in P (rows_added old new type_index) (λ ordinal row found. of_new ordinal row (added_row old new type_index ordinal row found)))

module _ (old new : Table) (type_index : ℕ) (agree : Agree old new type_index) where
  -- a row of the new state is among the rows of both
  pub each_both : (P : Row → Type 0) (ordinal : ℕ) (row : Row) → All P (rows_of_both old new type_index) → row_at new type_index ordinal ≡ Some row → P row
  each_both P ordinal row all found = by_old (row_at old type_index ordinal) refl
    where
      by_old : (a : Option Row) → row_at old type_index ordinal ≡ a → P row
      by_old None was =
          each_in P (rows_added old new type_index) ordinal row (all_right P (rows_from 0 (rows_in old type_index)) _ all)
          (added_some old new type_index ordinal row (λ live. let none = sym live ∙ ap is_some was in absurd cc) found)
      by_old (Some a) was =
          subst P (agree ordinal a row was found)
          (each_in P (rows_in old type_index) ordinal a (all_left P (rows_from 0 (rows_in old type_index)) _ all) (get_in old type_index ordinal ∙ was))

  -- what a place of the new state has, the rows of both have
  place_both : (f : Row → ℕ) (ordinal : ℕ) → at_place f (row_at new type_index ordinal) ≤ at_place f (get (rows_in old type_index) ordinal) + at_place f (get (rows_added old new type_index) ordinal)
  place_both f ordinal = by_new (row_at new type_index ordinal) refl (row_at old type_index ordinal) refl
    where
      by_new : (b : Option Row) → row_at new type_index ordinal ≡ b → (a : Option Row) → row_at old type_index ordinal ≡ a
          → at_place f b ≤ at_place f (get (rows_in old type_index) ordinal) + at_place f (get (rows_added old new type_index) ordinal)
      by_new None is a was = omega arith
      by_new (Some b) is None was =
          let here = ap (at_place f) (added_some old new type_index ordinal b (λ live. let none = sym live ∙ ap is_some was in absurd cc) is) in
          omega (arith, here)
      by_new (Some b) is (Some a) was =
          let here = ap (at_place f) (get_in old type_index ordinal ∙ was) in
          let same = ap f (agree ordinal a b was is) in
          omega (arith, here, same)

  places_both : (f : Row → ℕ) (ordinals : List ℕ) → sum_by (at_place f) (places_under new type_index ordinals)
      ≤ sum_by (at_place f) (map (get (rows_in old type_index)) ordinals) + sum_by (at_place f) (map (get (rows_added old new type_index)) ordinals)
  places_both f [] = omega arith
  places_both f (ordinal ∷ rest) =
      let one = sum_by-cons (at_place f) (row_at new type_index ordinal) (places_under new type_index rest) in
      let two = sum_by-cons (at_place f) (get (rows_in old type_index) ordinal) (map (get (rows_in old type_index)) rest) in
      let three = sum_by-cons (at_place f) (get (rows_added old new type_index) ordinal) (map (get (rows_added old new type_index)) rest) in
      omega (arith, one, two, three, place_both f ordinal, places_both f rest)

  -- the places under rising ordinals have together no more than the rows of both
  pub sum_both : (f : Row → ℕ) (ordinals : List ℕ) → RiseFrom 0 ordinals → sum_by (at_place f) (places_under new type_index ordinals) ≤ sum_by f (rows_of_both old new type_index)
  sum_both f ordinals rise =
      let kept = sum_under f (rows_in old type_index) 0 ordinals rise in
      let added = sum_under f (rows_added old new type_index) 0 ordinals rise in
      let all = sum_by-append f (rows_from 0 (rows_in old type_index)) (rows_from 0 (rows_added old new type_index)) in
      omega (arith, places_both f ordinals, kept, added, all)

  -- what holds of all rows of both holds of the row of each place
  pub all_places : (P : Row → Type 0) (ordinals : List ℕ) → All P (rows_of_both old new type_index) → All (λ row. IfSome row P) (places_under new type_index ordinals)
  all_places P [] all = λ k d inside. absurd (omega arith)
  all_places P (ordinal ∷ rest) all = All-cons (λ row. IfSome row P) (row_at new type_index ordinal) (places_under new type_index rest) (here (row_at new type_index ordinal) refl) (all_places P rest all)
    where
      here : (row : Option Row) → row_at new type_index ordinal ≡ row → IfSome row P
      here None is = tt
      here (Some row) is = each_both P ordinal row all is

-- what holds of the row of each place holds of a place's row
pub at_place_of : (P : Row → Type 0) (places : List (Option Row)) → All (λ row. IfSome row P) places → (place : ℕ) (row : Row) → slice_get places place ≡ Some (Some row) → P row
at_place_of P [] all place row at = absurd cc
at_place_of P (first ∷ rest) all zero row at = let is : first ≡ Some row = cc in subst (λ (o : Option Row). IfSome o P) is (All-head (λ o. IfSome o P) first rest all)
at_place_of P (first ∷ rest) all (suc place) row at = at_place_of P rest (All-tail (λ o. IfSome o P) first rest all) place row at

-- ---- the rows of both are no more than those of each

pub none_there : (row : Option Row) → ((found : Row) → row ≡ Some found → ⊥) → row ≡ None
none_there None never = refl
none_there (Some found) never = absurd (never found refl)

module _ (old new : Table) (type_index : ℕ) where
  added_le : (f : Row → ℕ) (ordinal : ℕ) → at_place f (get (rows_added old new type_index) ordinal) ≤ at_place f (get (rows_in new type_index) ordinal)
  added_le f ordinal = by_added (get (rows_added old new type_index) ordinal) refl
    where
      by_added : (row : Option Row) → get (rows_added old new type_index) ordinal ≡ row → at_place f row ≤ at_place f (get (rows_in new type_index) ordinal)
      by_added None is = omega arith
      by_added (Some row) is = let here = ap (at_place f) (get_in new type_index ordinal ∙ added_row old new type_index ordinal row is) in omega (arith, here)

  sum_added : (f : Row → ℕ) (limit gap from : ℕ) → from + gap ≡ limit → ((ordinal : ℕ) → limit ≤ ordinal → row_at new type_index ordinal ≡ None)
      → sum_by f (rows_from from (rows_added old new type_index)) ≤ sum_by f (rows_from from (rows_in new type_index))
  sum_added f limit zero from is past =
      let none = ap (sum_by f) (rows_past (rows_added old new type_index) from (λ q reached. added_none old new type_index q (past q (omega arith)))) in
      omega (arith, none)
  sum_added f limit (suc gap) from is past =
      let behind = sum_added f limit gap (from + 1) (omega arith) past in
      omega (arith, behind, sum_here f (rows_added old new type_index) from, sum_here f (rows_in new type_index) from, added_le f from)

  -- what the rows of both have together, the two states have
  pub sum_two : (f : Row → ℕ) (limit : ℕ) → ((ordinal : ℕ) (row : Row) → row_at new type_index ordinal ≡ Some row → ordinal < limit)
      → sum_by f (rows_of_both old new type_index) ≤ sum_by f (rows_from 0 (rows_in old type_index)) + sum_by f (rows_from 0 (rows_in new type_index))
  sum_two f limit below =
      let all = sum_by-append f (rows_from 0 (rows_in old type_index)) (rows_from 0 (rows_added old new type_index)) in
      let few = sum_added f limit limit 0 (omega arith) (λ ordinal past. none_there (row_at new type_index ordinal) (λ found is. let before = below ordinal found is in omega arith)) in
      omega (arith, all, few)

-- the rows of the new state are no more than those of both
pub sum_range : (f : Row → ℕ) (rows : RowMap) (limit gap from : ℕ) → from + gap ≡ limit → ((ordinal : ℕ) → limit ≤ ordinal → get rows ordinal ≡ None)
    → sum_by f (rows_from from rows) ≤ sum_by (at_place f) (map (get rows) (range_with_len from gap))
sum_range f rows limit zero from is past =
    let none = ap (sum_by f) (rows_past rows from (λ q reached. past q (omega arith))) in
    omega (arith, none)
sum_range f rows limit (suc gap) from is past =
    omega (arith, sum_here f rows from, sum_range f rows limit gap (from + 1) (omega arith) past, sum_by-cons (at_place f) (get rows from) (map (get rows) (range_with_len (from + 1) gap)))

range_rises : (from count : ℕ) → RiseFrom from (range_with_len from count)
range_rises from zero = tt
range_rises from (suc count) = (omega arith, range_rises (from + 1) count)

pub rise_all : (count : ℕ) → RiseFrom 0 (range_with_len 0 count)
rise_all count = range_rises 0 count

same_places : (new : Table) (type_index : ℕ) (ordinals : List ℕ) → map (get (rows_in new type_index)) ordinals ≡ places_under new type_index ordinals
same_places new type_index [] = refl
same_places new type_index (ordinal ∷ rest) =
    ap (λ (row : Option Row). row ∷ map (get (rows_in new type_index)) rest) (get_in new type_index ordinal) ∙ ap (λ (rows : List (Option Row)). row_at new type_index ordinal ∷ rows) (same_places new type_index rest)

pub sum_new : (f : Row → ℕ) (old new : Table) (type_index limit : ℕ) → Agree old new type_index → ((ordinal : ℕ) (row : Row) → row_at new type_index ordinal ≡ Some row → ordinal < limit)
    → sum_by f (rows_from 0 (rows_in new type_index)) ≤ sum_by f (rows_of_both old new type_index)
sum_new f old new type_index limit agree below =
    let past = λ (ordinal : ℕ) (over : limit ≤ ordinal). get_in new type_index ordinal ∙ none_there (row_at new type_index ordinal) (λ found is. let before = below ordinal found is in omega arith) in
    let ranged = sum_range f (rows_in new type_index) limit limit 0 (omega arith) past in
    let places = ap (sum_by (at_place f)) (same_places new type_index (range_with_len 0 limit)) in
    omega (arith, ranged, places, sum_both old new type_index agree f (range_with_len 0 limit) (rise_all limit))

pub sum_old : (f : Row → ℕ) (old new : Table) (type_index : ℕ) → sum_by f (rows_from 0 (rows_in old type_index)) ≤ sum_by f (rows_of_both old new type_index)
sum_old f old new type_index = omega (arith, sum_by-append f (rows_from 0 (rows_in old type_index)) (rows_from 0 (rows_added old new type_index)))
