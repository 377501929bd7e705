-- What stands in a table after a row is put.
use Rattle.std.proofs.Common.{◌≡◌, ◌∙◌, ◌<◌, ◌≤◌, ◌⊎◌, ℕ, zero, suc, [], ◌∷◌, Some, length, slice_set, refl, sym, ap, subst, inl, inr, arith}
use Rattle.std.specs.FinMap.{insert}
use Rattle.std.proofs.lemmas.Bool.{cases_eq}
use Rattle.row_model.specs.declared.row.Row.{Row}
use Rattle.row_model.specs.Table.{RowMap, Table, row_at}
use Rattle.write_engine.specs.Cycle.{rows_in, with_row}
use Rattle.write_engine.proofs.ClosedStates.{beside_set, row_beside, row_here}

-- both numbers are the same
abbrev pub IsThere : ℕ → ℕ → ℕ → ℕ → Type 0
IsThere t ordinal u o = (u ≡ t) × (o ≡ ordinal)

pub is_there : (t ordinal u o : ℕ) → IsThere t ordinal u o ⊎ (IsThere t ordinal u o → ⊥)
is_there t ordinal u o =
    elim (cases_eq u t) [
      | inr apart ↦ inr (λ both. apart both.0)
      | inl same ↦
          elim (cases_eq o ordinal) [
            | inl here ↦ inl (same, here)
            | inr beside ↦ inr (λ both. beside both.1)
          ]
    ]

pub set_past : (table : Table) (t : ℕ) (rows : RowMap) → length table ≤ t → slice_set table t rows ≡ table
set_past [] t rows past = refl
set_past (r ∷ table) zero rows past = absurd (omega arith)
set_past (r ∷ table) (suc t) rows past = ap (λ (rest : Table). r ∷ rest) (set_past table t rows (omega arith))

module _ (table : Table) (t ordinal : ℕ) (row : Row) (inside : t < length table) where
  pub put_other : (u o : ℕ) → (IsThere t ordinal u o → ⊥) → row_at (with_row table t ordinal row) u o ≡ row_at table u o
  put_other u o other =
      elim (cases_eq u t) [
        | inr apart ↦ beside_set table t u o (insert (rows_in table t) ordinal row) apart
        | inl same ↦ subst (λ n. row_at (with_row table t ordinal row) n o ≡ row_at table n o) (sym same) (row_beside table t ordinal row inside o (λ e. other (same, e)))
      ]

  pub put_there : (u o : ℕ) → IsThere t ordinal u o → row_at (with_row table t ordinal row) u o ≡ Some row
  put_there u o there =
      ap (λ n. row_at (with_row table t ordinal row) n o) there.0 ∙ ap (row_at (with_row table t ordinal row) t) there.1 ∙ row_here table t ordinal row inside

  -- a row after the put is the one that was put, or stood before
  pub put_cases : (u o : ℕ) (r : Row) → row_at (with_row table t ordinal row) u o ≡ Some r → (IsThere t ordinal u o × (r ≡ row)) ⊎ ((IsThere t ordinal u o → ⊥) × (row_at table u o ≡ Some r))
  put_cases u o r is =
      elim (is_there t ordinal u o) [
        | inl there ↦ (let e : Some r ≡ Some row = sym is ∙ put_there u o there in let value : r ≡ row = cc in inl (there, value))
        | inr other ↦ inr (other, sym (put_other u o other) ∙ is)
      ]
