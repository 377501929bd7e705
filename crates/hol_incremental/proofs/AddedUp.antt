-- What is added up over the rows of a table, with a row more.
use Rattle.std.proofs.Common.{◌≡◌, ◌∙◌, ◌+◌, ◌≤◌, ◌⊎◌, ℕ, zero, suc, List, [], ◌∷◌, Option, Some, None, length, slice_get, refl, sym, ap, inl, inr, arith}
use Rattle.std.specs.Prelude.{sum_by, fold, zip}
use Rattle.std.specs.FinMap.{empty, entries, find, get, get-empty, get-entries}
use Rattle.std.specs.Ordering.{nat_cmp}
use Rattle.schema_model.specs.declared.schema.Schema.{Schema}
use Rattle.row_model.specs.declared.row.Row.{Row}
use Rattle.row_model.specs.BothStates.{rows_from}
use Rattle.row_model.specs.Table.{RowMap, Table, row_at}
use Rattle.row_model.proofs.RowEntries.{Entry, skips}
use Rattle.row_model.proofs.RowsFrom.{rows_past, rows_skip, rows_take}
use Rattle.row_packing.proofs.RowsUnder.{at_place}
use Rattle.write_engine.specs.Cycle.{no_rows}
use Rattle.hol_incremental.specs.Counts.{added_up}

-- ---- sums of lists

module _ {X : Type 0} (f : X → ℕ) where
  from_start : (start : ℕ) (xs : List X) → fold (λ a x. a + f x) start xs ≡ start + fold (λ a x. a + f x) 0 xs
  from_start start [] = omega arith
  from_start start (x ∷ xs) =
      let here = from_start (start + f x) xs in
      let there = from_start (0 + f x) xs in
      omega (arith, here, there)

  pub sum_more : (x : X) (xs : List X) → sum_by f (x ∷ xs) ≡ f x + sum_by f xs
  sum_more x xs = let e = from_start (0 + f x) xs in omega (arith, e)

-- ---- a bound above all ordinals

abbrev above : List Entry → ℕ
above [] = 0
above (e ∷ es) = e.0 + 1 + above es

none_above : (q : ℕ) (es : List Entry) → above es ≤ q → find nat_cmp q es ≡ None
none_above q [] past = refl
none_above q (e ∷ es) past = skips q e es (λ same. omega (arith, same, past)) ∙ none_above q es (omega (arith, past))

bounded : (rows : RowMap) (q : ℕ) → above (entries rows) ≤ q → get rows q ≡ None
bounded rows q past = get-entries rows q ∙ none_above q (entries rows) past

-- a table without rows has none
pub none_at : (n t o : ℕ) → row_at (no_rows n) t o ≡ None
none_at zero t o = refl
none_at (suc n) zero o = get-empty nat_cmp o
none_at (suc n) (suc t) o = none_at n t o

-- Under an ordinal there is the row of the one, or that of the other, which the one lacks then.
abbrev pub Splits : Option Row → Option Row → Option Row → Type 0
Splits one other both = ((other ≡ None) × (both ≡ one)) ⊎ ((one ≡ None) × (both ≡ other))

-- ---- the rows of a type

module _ (f : Row → ℕ) where
  abbrev total : ℕ → RowMap → ℕ
  total n rows = sum_by f (rows_from n rows)

  take_one : (rows : RowMap) (n : ℕ) (row : Row) → get rows n ≡ Some row → total n rows ≡ f row + total (n + 1) rows
  take_one rows n row found = ap (sum_by f) (rows_take rows n row found) ∙ sum_more f row (rows_from (n + 1) rows)

  skip_one : (rows : RowMap) (n : ℕ) → get rows n ≡ None → total n rows ≡ total (n + 1) rows
  skip_one rows n none = ap (sum_by f) (rows_skip rows n (n + 1) (omega arith) (λ q from before. ap (get rows) (omega (arith, from, before)) ∙ none))

  past_all : (rows : RowMap) (n : ℕ) → ((q : ℕ) → n ≤ q → get rows q ≡ None) → total n rows ≡ 0
  past_all rows n none = ap (sum_by f) (rows_past rows n none)

  -- the same rows from an ordinal on
  same_step : (n : ℕ) (rows other : RowMap) (found : Option Row) → get rows n ≡ found → get other n ≡ get rows n → total (n + 1) other ≡ total (n + 1) rows → total n other ≡ total n rows
  same_step n rows other (Some row) is same rest = take_one other n row (same ∙ is) ∙ ap (λ t. f row + t) rest ∙ sym (take_one rows n row is)
  same_step n rows other None is same rest = skip_one other n (same ∙ is) ∙ rest ∙ sym (skip_one rows n is)

  same_from : (k n : ℕ) (rows other : RowMap) → ((q : ℕ) → n ≤ q → get other q ≡ get rows q) → ((q : ℕ) → n + k ≤ q → get rows q ≡ None) → total n other ≡ total n rows
  same_from zero n rows other same none =
      past_all other n (λ q from. same q from ∙ none q (omega (arith, from))) ∙ sym (past_all rows n (λ q from. none q (omega (arith, from))))
  same_from (suc k) n rows other same none =
      same_step n rows other (get rows n) refl (same n (omega arith)) (same_from k (n + 1) rows other (λ q from. same q (omega (arith, from))) (λ q from. none q (omega (arith, from))))

  -- a row more, at the first ordinal
  more_at : (k n : ℕ) (row : Row) (rows after : RowMap) → get rows n ≡ None → get after n ≡ Some row → ((q : ℕ) → (q ≡ n → ⊥) → get after q ≡ get rows q)
      → ((q : ℕ) → n + k ≤ q → get rows q ≡ None) → total n after ≡ f row + total n rows
  more_at k n row rows after free here same none =
      take_one after n row here
      ∙ ap (λ t. f row + t) (same_from k (n + 1) rows after (λ q from. same q (λ e. omega (arith, e, from))) (λ q from. none q (omega (arith, from))) ∙ sym (skip_one rows n free))

  -- a row more, so far behind the first ordinal
  more_step : (n : ℕ) (row : Row) (rows after : RowMap) (found : Option Row) → get rows n ≡ found → get after n ≡ get rows n → total (n + 1) after ≡ f row + total (n + 1) rows → total n after ≡ f row + total n rows
  more_step n row rows after (Some r) is same rest =
      let x = take_one after n r (same ∙ is) in
      let y = take_one rows n r is in
      omega (arith, x, y, rest)
  more_step n row rows after None is same rest =
      let x = skip_one after n (same ∙ is) in
      let y = skip_one rows n is in
      omega (arith, x, y, rest)

  more_behind : (d k n : ℕ) (row : Row) (rows after : RowMap) → get rows (n + d) ≡ None → get after (n + d) ≡ Some row → ((q : ℕ) → (q ≡ n + d → ⊥) → get after q ≡ get rows q)
      → ((q : ℕ) → n + d + k ≤ q → get rows q ≡ None) → total n after ≡ f row + total n rows
  more_behind zero k n row rows after free here same none =
      let e : n + 0 ≡ n = omega arith in
      more_at k n row rows after (ap (get rows) (sym e) ∙ free) (ap (get after) (sym e) ∙ here) (λ q other. same q (λ is. other (is ∙ e))) (λ q from. none q (omega (arith, from)))
  more_behind (suc d) k n row rows after free here same none =
      let e : n + suc d ≡ n + 1 + d = omega arith in
      let apart : n ≡ n + suc d → ⊥ = λ is. omega (arith, is) in
      more_step n row rows after (get rows n) refl (same n apart)
      (more_behind d k (n + 1) row rows after (ap (get rows) (sym e) ∙ free) (ap (get after) (sym e) ∙ here) (λ q other. same q (λ is. other (is ∙ e)))
      (λ q from. none q (omega (arith, from))))

  pub rows_more : (o : ℕ) (row : Row) (rows after : RowMap) → get rows o ≡ None → get after o ≡ Some row → ((q : ℕ) → (q ≡ o → ⊥) → get after q ≡ get rows q)
      → sum_by f (rows_from 0 after) ≡ f row + sum_by f (rows_from 0 rows)
  rows_more o row rows after free here same =
      let e : 0 + o ≡ o = omega arith in
      more_behind o (above (entries rows)) 0 row rows after (ap (get rows) e ∙ free) (ap (get after) e ∙ here) (λ q other. same q (λ is. other (is ∙ sym e)))
      (λ q from. bounded rows q (omega (arith, from)))

  pub rows_same : (rows after : RowMap) → ((q : ℕ) → get after q ≡ get rows q) → sum_by f (rows_from 0 after) ≡ sum_by f (rows_from 0 rows)
  rows_same rows after same = same_from (above (entries rows)) 0 rows after (λ q from. same q) (λ q from. bounded rows q (omega (arith, from)))

  -- each row of a map stands in one of two others
  one_place : (n : ℕ) (rows : RowMap) (found : Option Row) → get rows n ≡ found → total n rows ≡ at_place f found + total (n + 1) rows
  one_place n rows (Some row) is = take_one rows n row is
  one_place n rows None is = let past = skip_one rows n is in omega (arith, past)

  split_step : (n : ℕ) (one other both : RowMap) → Splits (get one n) (get other n) (get both n) → total (n + 1) both ≡ total (n + 1) one + total (n + 1) other → total n both ≡ total n one + total n other
  split_step n one other both (inl (none, same)) rest =
      let a = one_place n one (get one n) refl in
      let b = one_place n other (get other n) refl in
      let c = one_place n both (get both n) refl in
      let d = ap (at_place f) none in
      let e = ap (at_place f) same in
      omega (arith, a, b, c, d, e, rest)
  split_step n one other both (inr (none, same)) rest =
      let a = one_place n one (get one n) refl in
      let b = one_place n other (get other n) refl in
      let c = one_place n both (get both n) refl in
      let d = ap (at_place f) none in
      let e = ap (at_place f) same in
      omega (arith, a, b, c, d, e, rest)

  split_from : (k n : ℕ) (one other both : RowMap) → ((q : ℕ) → Splits (get one q) (get other q) (get both q)) → ((q : ℕ) → n + k ≤ q → get one q ≡ None) → ((q : ℕ) → n + k ≤ q → get other q ≡ None)
      → ((q : ℕ) → n + k ≤ q → get both q ≡ None) → total n both ≡ total n one + total n other
  split_from zero n one other both splits none nor nobody =
      let a = past_all one n (λ q from. none q (omega (arith, from))) in
      let b = past_all other n (λ q from. nor q (omega (arith, from))) in
      let c = past_all both n (λ q from. nobody q (omega (arith, from))) in
      omega (arith, a, b, c)
  split_from (suc k) n one other both splits none nor nobody =
      split_step n one other both (splits n)
      (split_from k (n + 1) one other both splits (λ q from. none q (omega (arith, from))) (λ q from. nor q (omega (arith, from))) (λ q from. nobody q (omega (arith, from))))

  pub rows_split : (one other both : RowMap) → ((q : ℕ) → Splits (get one q) (get other q) (get both q)) → sum_by f (rows_from 0 both) ≡ sum_by f (rows_from 0 one) + sum_by f (rows_from 0 other)
  rows_split one other both splits =
      split_from (above (entries one) + above (entries other) + above (entries both)) 0 one other both splits (λ q from. bounded one q (omega (arith, from))) (λ q from. bounded other q (omega (arith, from)))
      (λ q from. bounded both q (omega (arith, from)))

-- ---- the rows of a table

module _ (of : Schema → Row → ℕ) where
  -- what the first type adds
  first_type : (schema : Schema) (schemas : List Schema) (rows : RowMap) (table : Table) → added_up of (schema ∷ schemas) (rows ∷ table) ≡ sum_by (of schema) (rows_from 0 rows) + added_up of schemas table
  unfolding added_up
  first_type schema schemas rows table = sum_more {X = Schema × RowMap} (λ part. sum_by (of part.0) (rows_from 0 part.1)) (schema, rows) (zip schemas table)

  -- no rows
  pub added_none : (schemas : List Schema) (n : ℕ) → added_up of schemas (no_rows n) ≡ 0
  unfolding added_up
  added_none [] n = refl
  added_none (s ∷ schemas) zero = refl
  added_none (s ∷ schemas) (suc n) =
      let x = first_type s schemas empty (no_rows n) in
      let y = past_all (of s) empty 0 (λ q from. get-empty nat_cmp q) in
      let z = added_none schemas n in
      omega (arith, x, y, z)

  -- tables with the same rows
  pub same_added : (schemas : List Schema) (table after : Table) → length after ≡ length table → ((u q : ℕ) → row_at after u q ≡ row_at table u q) → added_up of schemas after ≡ added_up of schemas table
  unfolding added_up
  same_added [] table after types same = refl
  same_added (schema ∷ schemas) [] [] types same = refl
  same_added (schema ∷ schemas) [] (r ∷ after) types same = absurd (omega (arith, types))
  same_added (schema ∷ schemas) (r ∷ table) [] types same = absurd (omega (arith, types))
  same_added (schema ∷ schemas) (r ∷ table) (s ∷ after) types same =
      let here = rows_same (of schema) r s (λ q. same 0 q) in
      let rest = same_added schemas table after (omega (arith, types)) (λ u. same (suc u)) in
      let x = first_type schema schemas r table in
      let y = first_type schema schemas s after in
      omega (arith, here, rest, x, y)

  -- a table with a row more
  pub added_more : (schemas : List Schema) (table after : Table) (t o : ℕ) (schema : Schema) (row : Row) → length after ≡ length table → slice_get schemas t ≡ Some schema → row_at table t o ≡ None
      → row_at after t o ≡ Some row → ((u q : ℕ) → ((u ≡ t) × (q ≡ o) → ⊥) → row_at after u q ≡ row_at table u q) → added_up of schemas after ≡ of schema row + added_up of schemas table
  added_more [] table after t o schema row types known free here same = absurd cc
  added_more (s ∷ schemas) [] [] t o schema row types known free here same = absurd cc
  added_more (s ∷ schemas) [] (r ∷ after) t o schema row types known free here same = absurd (omega (arith, types))
  added_more (s ∷ schemas) (r ∷ table) [] t o schema row types known free here same = absurd (omega (arith, types))
  added_more (s ∷ schemas) (r ∷ table) (r' ∷ after) zero o schema row types known free here same =
      let is : s ≡ schema = cc in
      let first = rows_more (of s) o row r r' free here (λ q other. same 0 q (λ both. other both.1)) in
      let rest = same_added schemas table after (omega (arith, types)) (λ u q. same (suc u) q (λ both. omega (arith, both.0))) in
      let x = first_type s schemas r table in
      let y = first_type s schemas r' after in
      let z = ap (λ (c : Schema). of c row) is in
      omega (arith, first, rest, x, y, z)
  added_more (s ∷ schemas) (r ∷ table) (r' ∷ after) (suc t) o schema row types known free here same =
      let first = rows_same (of s) r r' (λ q. same 0 q (λ both. omega (arith, both.0))) in
      let rest = added_more schemas table after t o schema row (omega (arith, types)) known free here (λ u q other. same (suc u) q (λ both. other (omega (arith, both.0), both.1))) in
      let x = first_type s schemas r table in
      let y = first_type s schemas r' after in
      omega (arith, first, rest, x, y)
