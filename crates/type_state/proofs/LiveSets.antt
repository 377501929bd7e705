-- The live ordinals of rows with differences.
use Rattle.std.proofs.Common.{◌≡◌, ℕ, zero, ◌+◌, ◌<◌, ◌≤◌, ◌==◌, inl, inr, true, List, [], ◌∷◌, length, map, drop, get_or, Option, None, Some, refl, ap, sym, subst, ◌∙◌, arith}
use Rattle.std.specs.Prelude.{Contains, IsSome, is_some, not}
use Rattle.std.specs.Ordering.{nat_cmp}
use Rattle.std.specs.FinMap.{entries, find, get, get-entries, keys}
use Rattle.std.specs.List.Sorted.{IsStrictlyIncreasing}
use Rattle.std.specs.Map.{keys_of, values_of}
use Rattle.std.proofs.lemmas.Bool.{cases_eq, false≢true, ne_eqb}
use Rattle.std.proofs.lemmas.List.{at_drop_more, drop_all}
use Rattle.std.proofs.lemmas.List.Kept.{IsStrictlyIncreasing-filter}
use Rattle.std.proofs.lemmas.Map.Keys.{below_from_sorted}
use Rattle.ordinal_set.specs.Ordinals.{with_ordinal, without_ordinal}
use Rattle.ordinal_set.proofs.Members.{Contains-filter, Contains-kept, Contains-with_ordinal_cases, Contains-with_ordinal_itself, Contains-with_ordinal_kept, passes-from_filter, rising-with_ordinal, same_rising, there}
use Rattle.row_model.specs.declared.row.Row.{Row}
use Rattle.row_model.specs.Table.{RowMap}
use Rattle.type_rows.proofs.Keyed.{entries_rise}
use Rattle.type_rows.specs.Differing.{Difference, differ_at}
use Rattle.type_rows.proofs.DifferingAt.{differs_here, differs_there}
use Rattle.type_state.specs.declared.differences.Differences.{Differences}
use Rattle.type_state.specs.Differences.{differing, present, removal, rows_with, added_of, removed_of}
use Rattle.type_state.specs.Live.{live_with, with_all, without_all}
use Rattle.type_state.proofs.Lookups.{found, key_live, skipped}

-- ---- the keys of rows

pub keys_rise : (rows : RowMap) → IsStrictlyIncreasing (keys rows)
keys_rise rows = λ k below. below_from_sorted (keys rows) k (k + 1) 0 (entries_rise rows) (omega arith) below

key_there : (es : List (ℕ × Row)) (o : ℕ) → IsSome (find nat_cmp o es) → Contains (keys_of es) o
key_there [] o some = absurd (false≢true some)
key_there (e ∷ es) o some = elim (cases_eq o e.0) [
  | inl same ↦ (zero, omega arith, sym same)
  | inr other ↦ there e.0 (keys_of es) o (key_there es o (subst IsSome (skipped o e es other) some))
]

pub live_key : (rows : RowMap) (o : ℕ) → IsSome (get rows o) → Contains (keys rows) o
live_key rows o some = key_there (entries rows) o (subst IsSome (get-entries rows o) some)

pub key_stands : (rows : RowMap) (o : ℕ) → Contains (keys rows) o → IsSome (get rows o)
key_stands rows o at = subst IsSome (ap (get rows) at.2) (subst IsSome (sym (get-entries rows (get_or (keys rows) at.0 o))) (key_live (entries rows) at.0 o at.1))

-- ---- one difference

without_other : (set : List ℕ) (o m : ℕ) → (m ≡ o → ⊥) → Contains set m → Contains (without_ordinal o set) m
unfolding without_ordinal
without_other set o m other at = Contains-kept (λ n. not (n == o)) set m at (ap not (ne_eqb m o other))

without_in : (set : List ℕ) (o m : ℕ) → Contains (without_ordinal o set) m → Contains set m
unfolding without_ordinal
without_in set o m at = Contains-filter (λ n. not (n == o)) set m at

without_not : (set : List ℕ) (o m : ℕ) → Contains (without_ordinal o set) m → m ≡ o → ⊥
unfolding without_ordinal
without_not set o m at same =
    let passes : not (m == o) ≡ true = passes-from_filter (λ n. not (n == o)) set m at in
    grind (arith, passes, same)

without_rise : (set : List ℕ) (o : ℕ) → IsStrictlyIncreasing set → IsStrictlyIncreasing (without_ordinal o set)
unfolding without_ordinal
without_rise set o rise = IsStrictlyIncreasing-filter (λ n. not (n == o)) set rise

none_some : {X : Type 0} (found : Option X) → found ≡ None → IsSome found → ⊥
none_some found none some = false≢true (subst (λ f. is_some f ≡ true) none some)

keys_without : (rows : RowMap) (o : ℕ) → keys (differ_at rows (o, None)) ≡ without_ordinal o (keys rows)
keys_without rows o =
    same_rising (keys (differ_at rows (o, None))) (without_ordinal o (keys rows)) (keys_rise (differ_at rows (o, None))) (without_rise (keys rows) o (keys_rise rows)) (λ m at. elim (cases_eq m o) [
      | inl same ↦ absurd (none_some (get (differ_at rows (o, None)) m) (differs_here rows (o, None) m same) (key_stands (differ_at rows (o, None)) m at))
      | inr other ↦ without_other (keys rows) o m other (live_key rows m (subst IsSome (differs_there rows (o, None) m other) (key_stands (differ_at rows (o, None)) m at)))
    ]) (λ m at.
    let other = without_not (keys rows) o m at in
    live_key (differ_at rows (o, None)) m (subst IsSome (sym (differs_there rows (o, None) m other)) (key_stands rows m (without_in (keys rows) o m at))))

keys_with : (rows : RowMap) (o : ℕ) (row : Row) → keys (differ_at rows (o, Some row)) ≡ with_ordinal o (keys rows)
keys_with rows o row =
    same_rising (keys (differ_at rows (o, Some row))) (with_ordinal o (keys rows)) (keys_rise (differ_at rows (o, Some row))) (rising-with_ordinal o (keys rows) (keys_rise rows)) (λ m at. elim (cases_eq m o) [
      | inl same ↦ subst (Contains (with_ordinal o (keys rows))) (sym same) (Contains-with_ordinal_itself o (keys rows))
      | inr other ↦ Contains-with_ordinal_kept o (keys rows) m (live_key rows m (subst IsSome (differs_there rows (o, Some row) m other) (key_stands (differ_at rows (o, Some row)) m at)))
    ]) (λ m at. elim (cases_eq m o) [
      | inl same ↦ live_key (differ_at rows (o, Some row)) m (ap is_some (differs_here rows (o, Some row) m same))
      | inr other ↦ elim (Contains-with_ordinal_cases o (keys rows) m at) [
        | inl before ↦ live_key (differ_at rows (o, Some row)) m (subst IsSome (sym (differs_there rows (o, Some row) m other)) (key_stands rows m before))
        | inr it ↦ absurd (other (sym it))
      ]
    ])

-- ---- all of them

keys_gone : (rows : RowMap) (os : List ℕ) → keys (differing rows (map removal os)) ≡ without_all (keys rows) os
unfolding differing without_all
keys_gone rows [] = refl
keys_gone rows (o ∷ os) = keys_gone (differ_at rows (o, None)) os ∙ ap (λ live. without_all live os) (keys_without rows o)

keys_come : (rows : RowMap) (ds : List Difference) (come : List Row) → values_of ds ≡ map present come → keys (differing rows ds) ≡ with_all (keys rows) (keys_of ds)
unfolding differing with_all
keys_come rows [] come are = refl
keys_come rows (d ∷ ds) [] are = absurd cc
keys_come rows ((o, None) ∷ ds) (row ∷ come) are = absurd cc
keys_come rows ((o, Some some) ∷ ds) (row ∷ come) are =
    let rest : values_of ds ≡ map present come = cc in
    keys_come (differ_at rows (o, Some some)) ds come rest ∙ ap (λ live. with_all live (keys_of ds)) (keys_with rows o some)

-- Those that are removed are gone, and those that are added have come.
pub keys_moved : (rows : RowMap) (ds : Differences) (come : List Row) → keys_of (added_of ds) ≡ ds.patch.now.added → values_of (added_of ds) ≡ map present come → keys (rows_with rows ds) ≡ live_with (keys rows) ds
keys_moved rows ds come added are =
    keys_come (differing rows (removed_of ds)) (added_of ds) come are
    ∙ ap (with_all (keys (differing rows (removed_of ds)))) added
    ∙ ap (λ live. with_all live ds.patch.now.added) (keys_gone rows ds.patch.now.removed)

-- ---- sets that are made one ordinal after another

pub taken_more : (old new all os : List ℕ) (index o : ℕ) → without_all old (drop index os) ≡ all → index < length os → o ≡ get_or os index 0 → new ≡ without_ordinal o old → without_all new (drop (index + 1) os) ≡ all
unfolding without_all
taken_more old new all os index o before inside is new_is =
    ap (λ (set : List ℕ). without_all set (drop (index + 1) os)) (new_is ∙ ap (λ (p : ℕ). without_ordinal p old) is) ∙ sym (at_drop_more (without_all old) os index 0 inside) ∙ before

pub taken_all : (set all os : List ℕ) (index : ℕ) → without_all set (drop index os) ≡ all → length os ≤ index → set ≡ all
unfolding without_all
taken_all set all os index before past = sym (ap (without_all set) (drop_all index os past)) ∙ before

pub put_more : (old new all os : List ℕ) (index o : ℕ) → with_all old (drop index os) ≡ all → index < length os → o ≡ get_or os index 0 → new ≡ with_ordinal o old → with_all new (drop (index + 1) os) ≡ all
unfolding with_all
put_more old new all os index o before inside is new_is =
    ap (λ (set : List ℕ). with_all set (drop (index + 1) os)) (new_is ∙ ap (λ (p : ℕ). with_ordinal p old) is) ∙ sym (at_drop_more (with_all old) os index 0 inside) ∙ before

pub put_all : (set all os : List ℕ) (index : ℕ) → with_all set (drop index os) ≡ all → length os ≤ index → set ≡ all
unfolding with_all
put_all set all os index before past = sym (ap (with_all set) (drop_all index os past)) ∙ before
