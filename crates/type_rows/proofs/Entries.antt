-- The entries of a map of rows: one that is put in behind the others, and the bound.
use Rattle.std.proofs.Common.{◌≡◌, ℕ, ◌+◌, ◌<◌, ◌≤◌, ◌⊎◌, inl, inr, max, List, [], ◌∷◌, ◌++◌, map, cond, true, false, Bool, Some, refl, ap, sym, ◌∙◌, subst, arith}
use Rattle.std.specs.Prelude.{IsSome, is_some, T}
use Rattle.std.proofs.lemmas.Bool.{and_parts, cases_lt, false≢true}
use Rattle.std.proofs.lemmas.List.{map-append, nil_from_length}
use Rattle.std.specs.declared.cmp.Ordering.{Ordering}
use Rattle.std.specs.declared.cmp.Ordering.TheVariants.{Less, Equal, Greater}
use Rattle.std.specs.Ordering.{is_eq, nat_cmp}
use Rattle.std.specs.Cmp.{nat_cmp_total}
use Rattle.std.specs.FinMap.{empty, entries, entries-insert, entries_sorted, find, get, get-entries, insert, is_sorted, keys, len-empty, len-entries, nat_cmp-IsAntisymmetric}
use Rattle.std.specs.FinMap.Entries.{by_order, put}
use Rattle.std.specs.Map.{keys_of}
use Rattle.ordinal_set.specs.Ordinals.{bound_of}
use Rattle.row_model.specs.declared.row.Row.{Row}
use Rattle.row_model.specs.Table.{RowMap}
use Rattle.row_model.proofs.RowEntries.{AreFrom, Entry, from_below, from_none}
use Rattle.type_rows.proofs.Rising.{RiseFrom}

pub no_entry : entries (empty {X = Row} {R = nat_cmp}) ≡ []
no_entry = nil_from_length _ (sym (len-entries empty) ∙ len-empty nat_cmp Row)

greater : (k m : ℕ) → m < k → nat_cmp k m ≡ Greater
greater k m h = grind arith

-- A number that is not below the bound stands last.
bound_last : (os : List ℕ) (o : ℕ) → bound_of os ≤ o → bound_of (os ++ o ∷ []) ≡ o + 1
unfolding bound_of
bound_last [] o above = omega arith
bound_last (k ∷ os) o above = omega (arith, bound_last os o (omega arith))

put_last : (o : ℕ) (row : Row) (es : List Entry) → bound_of (keys_of es) ≤ o → put nat_cmp o row es ≡ es ++ (o, row) ∷ []
unfolding bound_of
put_last o row [] above = refl
put_last o row (e ∷ es) above =
    ap (λ r. by_order r ((o, row) ∷ e ∷ es) ((e.0, row) ∷ es) (e ∷ put nat_cmp o row es)) (greater o e.0 (omega arith))
    ∙ ap (λ (rest : List Entry). e ∷ rest) (put_last o row es (omega arith))

-- A row that is put in under an ordinal that is not below the bound is the last one.
pub inserted_last : (rows : RowMap) (o : ℕ) (row : Row) → bound_of (keys rows) ≤ o → entries (insert rows o row) ≡ entries rows ++ (o, row) ∷ []
inserted_last rows o row above = entries-insert nat_cmp_total rows o row ∙ put_last o row (entries rows) above

pub inserted_bound : (rows : RowMap) (o : ℕ) (row : Row) → bound_of (keys rows) ≤ o → o + 1 ≡ bound_of (keys (insert rows o row))
inserted_bound rows o row above =
    sym (ap (λ es. bound_of (keys_of es)) (inserted_last rows o row above) ∙ ap bound_of (map-append (λ (e : Entry). e.0) (entries rows) ((o, row) ∷ [])) ∙ bound_last (keys rows) o above)

pub no_bound : (rows : RowMap) → rows ≡ empty → 0 ≡ bound_of (keys rows)
unfolding bound_of
no_bound rows none = sym (ap (λ (m : RowMap). bound_of (keys m)) none ∙ ap (λ es. bound_of (keys_of es)) no_entry)

-- The ordinals of the entries rise.
is_true : (b : Bool) → T b → b ≡ true
is_true true h = refl
is_true false h = absurd h

from_keys : (low : ℕ) (es : List Entry) → AreFrom low es → is_sorted nat_cmp es ≡ true → RiseFrom low (keys_of es)
from_keys low [] from sorted = tt
from_keys low (e ∷ es) from sorted = let parts = and_parts _ _ sorted in (from.0, from_keys (e.0 + 1) es (from_below e.0 es parts.0) parts.1)

pub entries_rise : (rows : RowMap) → RiseFrom 0 (keys rows)
entries_rise rows = from_keys 0 (entries rows) (from_none (entries rows)) (is_true _ (entries_sorted rows))

-- ---- the bound of some rows

equal : (order : Ordering) → is_eq order ≡ true → order ≡ Equal
equal Less e = absurd (false≢true e)
equal Equal e = refl
equal Greater e = absurd (false≢true e)

-- A live ordinal is below the bound
pub live_below : (o : ℕ) (es : List (ℕ × Row)) → is_some (find nat_cmp o es) ≡ true → o < bound_of (map (λ e. e.0) es)
unfolding bound_of
live_below o [] live = absurd (false≢true live)
live_below o (e ∷ es) live =
    elim (is_eq (nat_cmp o e.0)) as (λ b. is_eq (nat_cmp o e.0) ≡ b → is_some (cond b (Some e.1) (find nat_cmp o es)) ≡ true → o < max (e.0 + 1) (bound_of (map (λ e. e.0) es))) [
      | true ↦ λ is _. let same = nat_cmp-IsAntisymmetric o e.0 (equal (nat_cmp o e.0) is) in omega arith
      | false ↦ λ is later. let below = live_below o es later in omega arith
    ] refl live

itself : (o : ℕ) → nat_cmp o o ≡ Equal
itself o = grind arith

-- The greatest live ordinal is the last below the bound
pub greatest : (es : List (ℕ × Row)) → (bound_of (map (λ e. e.0) es) ≡ 0) ⊎ ((o : ℕ) × (bound_of (map (λ e. e.0) es) ≡ o + 1) × (is_some (find nat_cmp o es) ≡ true))
unfolding bound_of
greatest [] = inl refl
greatest (e ∷ es) = elim (greatest es) [
  | inl none ↦ inr (e.0, omega arith, here e es)
  | inr one ↦ elim (cases_lt one.0 e.0) [
    | inl lt ↦ inr (e.0, omega (arith, one.1), here e es)
    | inr le ↦ inr (one.0, omega (arith, one.1), behind one.0 e es one.2)
  ]
]
  where
    here : (e : ℕ × Row) (es : List (ℕ × Row)) → is_some (find nat_cmp e.0 (e ∷ es)) ≡ true
    here e es = ap (λ r. is_some (cond (is_eq r) (Some e.1) (find nat_cmp e.0 es))) (itself e.0)

    behind : (o : ℕ) (e : ℕ × Row) (es : List (ℕ × Row)) → is_some (find nat_cmp o es) ≡ true → is_some (find nat_cmp o (e ∷ es)) ≡ true
    behind o e es live = elim (is_eq (nat_cmp o e.0)) as (λ b. is_some (cond b (Some e.1) (find nat_cmp o es)) ≡ true) [ true ↦ refl | false ↦ live ]

pub live_found : (rows : RowMap) (o : ℕ) → IsSome (get rows o) → is_some (find nat_cmp o (entries rows)) ≡ true
live_found rows o live = subst (λ r. is_some r ≡ true) (get-entries rows o) live

pub found_live : (rows : RowMap) (o : ℕ) → is_some (find nat_cmp o (entries rows)) ≡ true → IsSome (get rows o)
found_live rows o live = subst (λ r. is_some r ≡ true) (sym (get-entries rows o)) live

pub below_bound : (rows : RowMap) (o : ℕ) → IsSome (get rows o) → o < bound_of (keys rows)
below_bound rows o live = live_below o (entries rows) (live_found rows o live)

-- The bound is the least number above each ordinal that has a row.
pub least_bound : (rows : RowMap) (bound : ℕ) → ((o : ℕ) → IsSome (get rows o) → o < bound) → ((bound ≡ 0) ⊎ ((o : ℕ) × (bound ≡ o + 1) × IsSome (get rows o))) → bound ≡ bound_of (keys rows)
least_bound rows bound above least = elim (greatest (entries rows)) [
  | inl none ↦ elim least [
    | inl nought ↦ nought ∙ sym none
    | inr one ↦ (let low = below_bound rows one.0 one.2 in absurd (omega (arith, none, low)))
  ]
  | inr last ↦ (
      let low = above last.0 (found_live rows last.0 last.2) in
      elim least [
        | inl nought ↦ absurd (omega (arith, low, nought))
        | inr one ↦ (let high = below_bound rows one.0 one.2 in omega (arith, low, last.1, one.1, high))
      ])
]
