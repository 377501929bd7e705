-- Lemmas on the live ordinals of a type: they are the keys of its rows, and the set of those below a number grows by one at most.
use Rattle.std.proofs.Common.{◌≡◌, ◌↔◌, ℕ, zero, suc, ◌+◌, ◌<◌, ◌≤◌, inl, inr, Option, Some, None, List, [], ◌∷◌, get_or, Bool, true, false, T, refl, sym, ap, ◌∙◌, subst, arith}
use Rattle.std.specs.Prelude.{All, Contains, is_some, map}
use Rattle.std.specs.List.Sorted.{IsStrictlyIncreasing}
use Rattle.std.specs.Cmp.{nat_cmp_total, eq_by_cmp_equiv}
use Rattle.std.specs.Ordering.{nat_cmp}
use Rattle.std.specs.FinMap.{contains_key-keys, entries, entries_sorted, is_sorted, keys, nat_cmp-IsAntisymmetric}
use Rattle.std.specs.FinMap.Entries.{below_all}
use Rattle.std.proofs.lemmas.Bool.{and_parts, cases_lt}
use Rattle.std.proofs.lemmas.Map.Views.{Contains-from_any, list_any-from_Contains, tells_apart}
use Rattle.std.proofs.lemmas.List.Elements.{All-map}
use Rattle.ordinal_set.specs.Ordinals.{with_ordinal}
use Rattle.ordinal_set.specs.Population.{AreUpTo}
use Rattle.ordinal_set.proofs.Members.{no_member, same_rising, rising-with_ordinal, Contains-with_ordinal_cases, Contains-with_ordinal_itself, Contains-with_ordinal_kept}
use Rattle.row_model.proofs.RowEntries.{Entry, from_below}
use Rattle.row_model.specs.Table.{IsBound, IsLive, RowMap, Table}
use Rattle.row_model.specs.BothStates.{rows_in}
use Rattle.row_model.proofs.RowsFrom.{get_in}
use Rattle.row_packing.specs.Chosen.{IsGreatestOrdinal}
use Rattle.row_packing.proofs.RowsUnder.{all_found}

-- ---- the keys of rows

is_true : (b : Bool) → T b → b ≡ true
is_true true h = refl
is_true false h = absurd h

rising_entries : (es : List Entry) → is_sorted nat_cmp es ≡ true → IsStrictlyIncreasing (map (λ e. e.0) es)
rising_entries [] sorted k inside = absurd (omega arith)
rising_entries (a ∷ []) sorted k inside = absurd (omega arith)
rising_entries (a ∷ b ∷ es) sorted zero inside =
    let from = from_below a.0 (b ∷ es) (and_parts (below_all nat_cmp a.0 (b ∷ es)) (is_sorted nat_cmp (b ∷ es)) sorted).0 in
    omega (arith, from.0)
rising_entries (a ∷ b ∷ es) sorted (suc k) inside =
    let behind = (and_parts (below_all nat_cmp a.0 (b ∷ es)) (is_sorted nat_cmp (b ∷ es)) sorted).1 in
    let next : suc (k + 1) ≡ suc k + 1 = omega arith in
    let keys_behind : List ℕ = map (λ e. e.0) (b ∷ es) in
    subst (λ (j : ℕ). get_or keys_behind k 0 < get_or (a.0 ∷ keys_behind) j 0) next (rising_entries (b ∷ es) behind k (omega arith))

pub rising_keys : (rows : RowMap) → IsStrictlyIncreasing (keys rows)
rising_keys rows = rising_entries (entries rows) (is_true _ (entries_sorted rows))

module _ (table : Table) (type_index : ℕ) where
  pub live_is : (ordinal : ℕ) → IsLive table type_index ordinal → Contains (keys (rows_in table type_index)) ordinal
  live_is ordinal live =
      Contains-from_any (tells_apart nat_cmp-IsAntisymmetric) ordinal (keys (rows_in table type_index))
      (sym (contains_key-keys (rows_in table type_index) ordinal) ∙ ap is_some (get_in table type_index ordinal) ∙ live)

  pub is_live : (ordinal : ℕ) → Contains (keys (rows_in table type_index)) ordinal → IsLive table type_index ordinal
  is_live ordinal key =
      ap is_some (sym (get_in table type_index ordinal)) ∙ contains_key-keys (rows_in table type_index) ordinal
      ∙ list_any-from_Contains (eq_by_cmp_equiv nat_cmp_total) ordinal (keys (rows_in table type_index)) key

-- a rising list whose members are the live ordinals
pub members_live : (table : Table) (type_index : ℕ) (set : List ℕ) → IsStrictlyIncreasing set → ((ordinal : ℕ) → Contains set ordinal ↔ IsLive table type_index ordinal) → set ≡ keys (rows_in table type_index)
members_live table type_index set rising has =
    same_rising set (keys (rows_in table type_index)) rising (rising_keys (rows_in table type_index)) (λ n inside. live_is table type_index n ((has n).0 inside)) (λ n key. (has n).1 (is_live table type_index n key))

-- ---- the live ordinals below a number

-- the set has the live ordinals below the number
pub record IsLiveBelow (table : Table) (type_index limit : ℕ) (set : List ℕ) : Type 0 where
  pub rising : IsStrictlyIncreasing set
  pub live : (ordinal : ℕ) → Contains set ordinal → (ordinal < limit) × IsLive table type_index ordinal
  pub all : (ordinal : ℕ) → ordinal < limit → IsLive table type_index ordinal → Contains set ordinal

pub none_below : (table : Table) (type_index : ℕ) → IsLiveBelow table type_index 0 []
none_below table type_index = record {
  rising = λ k inside. absurd (omega arith);
  live = λ ordinal inside. absurd (no_member ordinal inside);
  all = λ ordinal below live. absurd (omega arith);
}

pub one_put : (table : Table) (type_index ordinal : ℕ) (set more : List ℕ) → IsLiveBelow table type_index ordinal set → IsLive table type_index ordinal → more ≡ with_ordinal ordinal set
    → IsLiveBelow table type_index (ordinal + 1) more
one_put table type_index ordinal set more are here put =
    subst (IsLiveBelow table type_index (ordinal + 1)) (sym put) (record {
      rising = rising-with_ordinal ordinal set are.rising;
      live = λ n inside.
          elim (Contains-with_ordinal_cases ordinal set n inside) [
            | inl before ↦ let known = are.live n before in (omega (arith, known.0), known.1)
            | inr same ↦ (omega arith, subst (IsLive table type_index) same here)
          ];
      all = λ n below live.
          elim (cases_lt n ordinal) [
            | inl before ↦ Contains-with_ordinal_kept ordinal set n (are.all n before live)
            | inr from ↦ let same : ordinal ≡ n = omega arith in subst (Contains (with_ordinal ordinal set)) same (Contains-with_ordinal_itself ordinal set)
          ];
    })

pub one_passed : (table : Table) (type_index ordinal : ℕ) (set : List ℕ) → IsLiveBelow table type_index ordinal set → (IsLive table type_index ordinal → ⊥)
    → IsLiveBelow table type_index (ordinal + 1) set
one_passed table type_index ordinal set are dead = record {
  rising = are.rising;
  live = λ n inside. let known = are.live n inside in (omega (arith, known.0), known.1);
  all = λ n below live.
      elim (cases_lt n ordinal) [
        | inl before ↦ are.all n before live
        | inr from ↦ let same : n ≡ ordinal = omega arith in absurd (dead (subst (IsLive table type_index) same live))
      ];
}

-- below the bound they are all
pub all_live : (table : Table) (type_index bound : ℕ) (set : List ℕ) → IsBound table type_index bound → IsLiveBelow table type_index bound set → set ≡ keys (rows_in table type_index)
all_live table type_index bound set is are =
    same_rising set (keys (rows_in table type_index)) are.rising (rising_keys (rows_in table type_index))
    (λ n inside. live_is table type_index n (are.live n inside).1)
    (λ n key. let live = is_live table type_index n key in are.all n (is.above n live) live)

-- ---- the greatest ordinal

no_keys : (es : List Entry) → All (λ e. ⊥) es → map (λ e. e.0) es ≡ []
no_keys [] none = refl
no_keys (e ∷ es) none = absurd (none 0 e (omega arith))

-- no live ordinal of the new state is above the greatest of both
pub up_to_greatest : (old new : Table) (type_index : ℕ) (max : Option ℕ) → IsGreatestOrdinal old new type_index max → AreUpTo max (keys (rows_in new type_index))
up_to_greatest old new type_index None none =
    no_keys (entries (rows_in new type_index)) (all_found (λ entry. ⊥) (rows_in new type_index) (λ ordinal row found. none ordinal (inr (ap is_some (sym (get_in new type_index ordinal) ∙ found)))))
up_to_greatest old new type_index (Some max) greatest =
    All-map (λ ordinal. ordinal ≤ max) (λ entry. entry.0) (entries (rows_in new type_index))
    (all_found (λ entry. entry.0 ≤ max) (rows_in new type_index) (λ ordinal row found. greatest.1 ordinal (inr (ap is_some (sym (get_in new type_index ordinal) ∙ found)))))
