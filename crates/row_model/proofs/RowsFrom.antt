-- Lemmas on the rows of a type from an ordinal on.
use Rattle.std.proofs.Common.{◌≡◌, ◌<◌, ◌≤◌, ◌+◌, inl, inr, ℕ, List, [], ◌∷◌, Bool, true, false, T, Option, Some, None, refl, sym, ap, ◌∙◌, arith, leb}
use Rattle.std.specs.Prelude.{IsSome, cond, map, filter, nat_le, not, is_some, slice_get, unwrap_or}
use Rattle.std.specs.Option.{option_and_then}
use Rattle.std.specs.Ordering.{nat_cmp}
use Rattle.std.specs.declared.cmp.Ordering.TheVariants.{Equal}
use Rattle.std.specs.Cmp.{ranked}
use Rattle.std.specs.FinMap.{find, is_sorted, entries, entries_sorted, get, get-entries, get-empty, get-retain_keys, empty}
use Rattle.std.proofs.lemmas.Bool.{and_parts, cases_lt, cases_order, cond-true, cond-false, le-leb, lt-leb}
use Rattle.row_model.specs.declared.row.Row.{Row}
use Rattle.row_model.proofs.RowEntries.{Entry, skips, finds, from_below, finds_none}
use Rattle.row_model.specs.Table.{RowMap, Table, row_at}
use Rattle.row_model.specs.BothStates.{rows_in, rows_added, rows_from}

-- ---- a look-up in entries

-- where nothing is found, the first entry has another key
other_key : (q : ℕ) (e : Entry) (es : List Entry) → find nat_cmp q (e ∷ es) ≡ None → q ≡ e.0 → ⊥
other_key q e es none same =
    let found = ap (λ k. find nat_cmp k (e ∷ es)) same ∙ finds e es in
    absurd cc

not_behind : (q : ℕ) (e : Entry) (es : List Entry) → find nat_cmp q (e ∷ es) ≡ None → find nat_cmp q es ≡ None
not_behind q e es none = sym (skips q e es (other_key q e es none)) ∙ none

-- ---- the rows from an ordinal on, in entries

abbrev rows_on : ℕ → List Entry → List Row
rows_on ordinal es = map (λ entry. entry.1) (filter (λ entry. nat_le ordinal entry.0) es)

kept : (ordinal : ℕ) (e : Entry) (es : List Entry) → ordinal ≤ e.0 → rows_on ordinal (e ∷ es) ≡ e.1 ∷ rows_on ordinal es
kept ordinal e es from = ap (map (λ entry. entry.1)) (cond-true (leb ordinal e.0) (e ∷ filter (λ entry. nat_le ordinal entry.0) es) (filter (λ entry. nat_le ordinal entry.0) es) (le-leb ordinal e.0 from))

left_out : (ordinal : ℕ) (e : Entry) (es : List Entry) → e.0 < ordinal → rows_on ordinal (e ∷ es) ≡ rows_on ordinal es
left_out ordinal e es below = ap (map (λ entry. entry.1)) (cond-false (leb ordinal e.0) (e ∷ filter (λ entry. nat_le ordinal entry.0) es) (filter (λ entry. nat_le ordinal entry.0) es) (lt-leb ordinal e.0 below))

-- ordinals without a row are passed over
skip_on : (ordinal next : ℕ) (es : List Entry) → ordinal ≤ next → ((q : ℕ) → ordinal ≤ q → q < next → find nat_cmp q es ≡ None) → rows_on ordinal es ≡ rows_on next es
skip_on ordinal next [] le none = refl
skip_on ordinal next (e ∷ es) le none =
    let behind = skip_on ordinal next es le (λ q from before. not_behind q e es (none q from before)) in
    elim (cases_lt e.0 ordinal) [
      | inl below ↦ left_out ordinal e es below ∙ behind ∙ sym (left_out next e es (omega arith))
      | inr from ↦
          elim (cases_lt e.0 next) [
            | inl before ↦ absurd (other_key e.0 e es (none e.0 from before) refl)
            | inr after ↦ kept ordinal e es from ∙ ap (λ rows. e.1 ∷ rows) behind ∙ sym (kept next e es after)
          ]
    ]

-- a row is the first one from its ordinal on
take_on : (ordinal : ℕ) (row : Row) (es : List Entry) → is_sorted nat_cmp es ≡ true → find nat_cmp ordinal es ≡ Some row → rows_on ordinal es ≡ row ∷ rows_on (ordinal + 1) es
take_on ordinal row [] sorted found = absurd cc
take_on ordinal row (e ∷ es) sorted found =
    let parts = and_parts _ _ sorted in
    let behind = from_below e.0 es parts.0 in
    elim (cases_order ordinal e.0) [
      | inl same ↦
          let here = ap (λ k. find nat_cmp k (e ∷ es)) same ∙ finds e es in
          let is : e.1 ≡ row = cc in
          kept ordinal e es (omega arith)
          ∙ ap (λ r. r ∷ rows_on ordinal es) is
          ∙ ap (λ rows. row ∷ rows)
          (skip_on ordinal (ordinal + 1) es (omega arith) (λ q from before. finds_none q (e.0 + 1) es (omega arith) behind) ∙ sym (left_out (ordinal + 1) e es (omega arith)))
      | inr apart ↦
          elim apart [
            | inl before ↦ let none = skips ordinal e es (λ same. omega arith) ∙ finds_none ordinal (e.0 + 1) es (omega arith) behind in absurd cc
            | inr after ↦
                left_out ordinal e es after
                ∙ take_on ordinal row es parts.1 (sym (skips ordinal e es (λ same. omega arith)) ∙ found)
                ∙ ap (λ rows. row ∷ rows) (sym (left_out (ordinal + 1) e es (omega arith)))
          ]
    ]

-- past all rows there is none
past_on : (ordinal : ℕ) (es : List Entry) → ((q : ℕ) → ordinal ≤ q → find nat_cmp q es ≡ None) → rows_on ordinal es ≡ []
past_on ordinal [] none = refl
past_on ordinal (e ∷ es) none =
    elim (cases_lt e.0 ordinal) [
      | inl below ↦ left_out ordinal e es below ∙ past_on ordinal es (λ q from. not_behind q e es (none q from))
      | inr from ↦ absurd (other_key e.0 e es (none e.0 from) refl)
    ]

-- ---- the same of maps

is_true : (b : Bool) → T b → b ≡ true
is_true true h = refl
is_true false h = absurd h

pub rows_skip : (rows : RowMap) (ordinal next : ℕ) → ordinal ≤ next → ((q : ℕ) → ordinal ≤ q → q < next → get rows q ≡ None) → rows_from ordinal rows ≡ rows_from next rows
unfolding rows_from
rows_skip rows ordinal next le none = skip_on ordinal next (entries rows) le (λ q from before. sym (get-entries rows q) ∙ none q from before)

pub rows_take : (rows : RowMap) (ordinal : ℕ) (row : Row) → get rows ordinal ≡ Some row → rows_from ordinal rows ≡ row ∷ rows_from (ordinal + 1) rows
unfolding rows_from
rows_take rows ordinal row found = take_on ordinal row (entries rows) (is_true _ (entries_sorted rows)) (sym (get-entries rows ordinal) ∙ found)

pub rows_past : (rows : RowMap) (ordinal : ℕ) → ((q : ℕ) → ordinal ≤ q → get rows q ≡ None) → rows_from ordinal rows ≡ []
unfolding rows_from
rows_past rows ordinal none = past_on ordinal (entries rows) (λ q from. sym (get-entries rows q) ∙ none q from)

-- ---- the rows of a table

pub get_in : (table : Table) (type_index ordinal : ℕ) → get (rows_in table type_index) ordinal ≡ row_at table type_index ordinal
get_in table type_index ordinal = of_option (slice_get table type_index)
  where
    of_option : (rows : Option RowMap) → get (unwrap_or rows (empty {R = nat_cmp})) ordinal ≡ option_and_then (λ map. get map ordinal) rows
    of_option None = get-empty nat_cmp ordinal
    of_option (Some map) = refl

get_kept : (old new : Table) (type_index ordinal : ℕ) → get (rows_added old new type_index) ordinal ≡ cond (not (is_some (row_at old type_index ordinal))) (get (rows_in new type_index) ordinal) None
get_kept old new type_index ordinal =
    get-retain_keys (rows_in new type_index) (λ o. not (is_some (row_at old type_index o))) ordinal
    (λ other tied. ap (λ o. not (is_some (row_at old type_index o))) (sym (ranked ordinal other Equal (sym tied))))

pub added_none : (old new : Table) (type_index ordinal : ℕ) → row_at new type_index ordinal ≡ None → get (rows_added old new type_index) ordinal ≡ None
added_none old new type_index ordinal none =
    get_kept old new type_index ordinal
    ∙ ap (λ (row : Option Row). cond (not (is_some (row_at old type_index ordinal))) row None) (get_in new type_index ordinal ∙ none)
    ∙ either (not (is_some (row_at old type_index ordinal)))
  where
    either : (b : Bool) → ◌≡◌ {A = Option Row} (cond b None None) None
    either true = refl
    either false = refl

pub added_live : (old new : Table) (type_index ordinal : ℕ) → IsSome (row_at old type_index ordinal) → get (rows_added old new type_index) ordinal ≡ None
added_live old new type_index ordinal live =
    get_kept old new type_index ordinal ∙ ap (λ (b : Bool). cond (not b) (get (rows_in new type_index) ordinal) None) live

pub added_some : (old new : Table) (type_index ordinal : ℕ) (row : Row) → (IsSome (row_at old type_index ordinal) → ⊥) → row_at new type_index ordinal ≡ Some row → get (rows_added old new type_index) ordinal ≡ Some row
added_some old new type_index ordinal row dead some =
    get_kept old new type_index ordinal
    ∙ ap (λ (b : Bool). cond (not b) (get (rows_in new type_index) ordinal) None) (is_false (is_some (row_at old type_index ordinal)) dead)
    ∙ get_in new type_index ordinal ∙ some
  where
    is_false : (b : Bool) → (b ≡ true → ⊥) → b ≡ false
    is_false true h = absurd (h refl)
    is_false false h = refl
