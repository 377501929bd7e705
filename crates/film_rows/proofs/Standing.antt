-- Rows that stand in a cycle stay there, and are put again without a change.
use Rattle.std.proofs.Common.{◌≡◌, ℕ, zero, suc, ◌<◌, [], ◌∷◌, length, Some, None, inl, inr, refl, sym, ap, ◌∙◌, arith}
use Rattle.std.specs.Prelude.{slice_set, is_some}
use Rattle.std.specs.Cmp.{nat_cmp_total}
use Rattle.std.specs.FinMap.{get, insert, same_map, nat_cmp-IsAntisymmetric}
use Rattle.std.proofs.lemmas.Bool.{cases_eq}
use Rattle.row_model.specs.declared.row.Row.{Row}
use Rattle.row_model.specs.Table.{Table, RowMap, row_at}
use Rattle.ordinal_map.specs.Assign.{IsPut}
use Rattle.ordinal_map.proofs.SetRows.{get_beside, get_inserted}
use Rattle.write_engine.specs.Agreement.{TablesAgree}
use Rattle.write_engine.specs.Cycle.{PutsRow, rows_in, with_row}
use Rattle.write_engine.proofs.ClosedStates.{at_rows, beside_set, length_set, row_beside, row_here}

-- a type that has a row is there
row_within : (table : Table) (t o : ℕ) (row : Row) → row_at table t o ≡ Some row → t < length table
row_within [] zero o row is = absurd cc
row_within [] (suc t) o row is = absurd cc
row_within (r ∷ table) zero o row is = omega arith
row_within (r ∷ table) (suc t) o row is = let rest = row_within table t o row is in omega (arith, rest)

module _ (previous before after : Table) (t ordinal : ℕ) (row : Row) (puts : PutsRow previous t row before ordinal after) where
  -- the row that is put stands there
  pub stands : t < length before → row_at after t ordinal ≡ Some row
  stands inside = ap (λ (table : Table). row_at table t ordinal) puts.after_is ∙ row_here before t ordinal row inside

  pub as_many : length after ≡ length before
  as_many = ap (λ (table : Table). length table) puts.after_is ∙ length_set before t (insert (rows_in before t) ordinal row)

  -- a row that stood under the ordinal is the one that is put
  itself : TablesAgree previous before → (r : Row) → get (rows_in before t) ordinal ≡ Some r → r ≡ row
  itself agree r is = of_put puts.put
    where
      of_put : IsPut (rows_in previous t) (rows_in before t) row ordinal → r ≡ row
      of_put (inl held) = (agree t).one_row ordinal r row (inr is) held
      of_put (inr new) = let e : None ≡ Some r = sym new.least.free_now ∙ is in absurd cc

  -- each row that stood before stands there still
  pub keeps : TablesAgree previous before → (u o : ℕ) (r : Row) → row_at before u o ≡ Some r → row_at after u o ≡ Some r
  keeps agree u o r is = ap (λ (table : Table). row_at table u o) puts.after_is ∙ elim (cases_eq u t) [
    | inr apart ↦ beside_set before t u o (insert (rows_in before t) ordinal row) apart ∙ is
    | inl same ↦
        (let here : row_at before t o ≡ Some r = ap (λ n. row_at before n o) (sym same) ∙ is in
        let inside = row_within before t o r here in
        ap (λ n. row_at (with_row before t ordinal row) n o) same ∙ elim (cases_eq o ordinal) [
          | inr beside ↦ row_beside before t ordinal row inside o beside ∙ here
          | inl at ↦
              (let it = itself agree r (at_rows before t ordinal inside ∙ ap (row_at before t) (sym at) ∙ here) in
              ap (row_at (with_row before t ordinal row) t) at ∙ row_here before t ordinal row inside ∙ ap Some (sym it))
        ])
  ]

-- a row put where it stands changes nothing
inserted_same : (rows : RowMap) (o : ℕ) (row : Row) → get rows o ≡ Some row → insert rows o row ≡ rows
inserted_same rows o row is = same_map nat_cmp_total nat_cmp-IsAntisymmetric (insert rows o row) rows (λ q. elim (cases_eq q o) [
  | inl e ↦ ap (get (insert rows o row)) e ∙ get_inserted rows o row ∙ sym is ∙ sym (ap (get rows) e)
  | inr apart ↦ get_beside rows o q row apart
])

set_rows : (table : Table) (t : ℕ) → slice_set table t (rows_in table t) ≡ table
set_rows [] t = refl
set_rows (r ∷ table) zero = refl
set_rows (r ∷ table) (suc t) = ap (λ (rest : Table). r ∷ rest) (set_rows table t)

pub puts_again : (previous table : Table) (t o : ℕ) (row : Row) → TablesAgree previous table → row_at table t o ≡ Some row → PutsRow previous t row table o table
puts_again previous table t o row agree is =
    let here : get (rows_in table t) o ≡ Some row = at_rows table t o (row_within table t o row is) ∙ is in
    record {
      put = inl (inr here);
      low = (agree t).low o (inr (ap is_some here));
      after_is = sym (ap (slice_set table t) (inserted_same (rows_in table t) o row here) ∙ set_rows table t);
    }
