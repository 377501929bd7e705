-- Tables that hold the same rows beside a third one: a row that is put gets the same ordinal in both, and they still do.
use Rattle.std.proofs.Common.{◌≡◌, ◌∙◌, ◌<◌, ◌⊎◌, ℕ, Option, Some, None, length, refl, sym, ap, subst, inl, inr, arith}
use Rattle.std.specs.Prelude.{IsSome, is_some}
use Rattle.std.specs.FinMap.{get, insert}
use Rattle.std.proofs.lemmas.Bool.{cases_lt}
use Rattle.row_model.specs.declared.row.Row.{Row}
use Rattle.row_model.specs.Table.{Table, row_at}
use Rattle.row_model.proofs.RowsFrom.{get_in}
use Rattle.ordinal_map.specs.Assign.{Holds, IsPut, IsTaken}
use Rattle.write_engine.specs.Agreement.{TablesAgree}
use Rattle.write_engine.specs.Cycle.{PutsRow, rows_in, with_row}
use Rattle.write_engine.proofs.ClosedStates.{length_set}
use Rattle.hol_incremental.specs.Beside.{HasEither, SameBeside}
use Rattle.hol_incremental.proofs.PutRows.{IsThere, is_there, put_cases, put_other, put_there, set_past}

-- ---- the same relation

pub itself : (previous table : Table) → SameBeside previous table table
itself previous table = record { types = refl; same = λ t o row. ((λ h. h), (λ h. h)) }

pub turned : (previous table other : Table) → SameBeside previous table other → SameBeside previous other table
turned previous table other same = record { types = sym same.types; same = λ t o row. ((same.same t o row).1, (same.same t o row).0) }

pub then_same : (previous a b c : Table) → SameBeside previous a b → SameBeside previous b c → SameBeside previous a c
then_same previous a b c one two = record {
  types = one.types ∙ two.types;
  same = λ t o row. ((λ h. (two.same t o row).0 ((one.same t o row).0 h)), (λ h. (one.same t o row).1 ((two.same t o row).1 h)));
}

-- ---- rows of a type

pub of_holds : (previous table : Table) (t o : ℕ) (row : Row) → Holds (rows_in previous t) (rows_in table t) row o → HasEither previous table t o row
of_holds previous table t o row (inl before) = inl (sym (get_in previous t o) ∙ before)
of_holds previous table t o row (inr now) = inr (sym (get_in table t o) ∙ now)

pub to_holds : (previous table : Table) (t o : ℕ) (row : Row) → HasEither previous table t o row → Holds (rows_in previous t) (rows_in table t) row o
to_holds previous table t o row (inl before) = inl (get_in previous t o ∙ before)
to_holds previous table t o row (inr now) = inr (get_in table t o ∙ now)

module _ (previous table other : Table) (same : SameBeside previous table other) (t : ℕ) where
  held_both : (row : Row) (o : ℕ) → Holds (rows_in previous t) (rows_in table t) row o → Holds (rows_in previous t) (rows_in other t) row o
  held_both row o held = to_holds previous other t o row ((same.same t o row).0 (of_holds previous table t o row held))

  -- a row that one of the tables has stands somewhere
  taken_row : (o : ℕ) → IsTaken (rows_in previous t) (rows_in table t) o → (row : Row) × Holds (rows_in previous t) (rows_in table t) row o
  taken_row o taken = found (get (rows_in previous t) o) (get (rows_in table t) o) refl refl taken
    where
      found : (a b : Option Row) → get (rows_in previous t) o ≡ a → get (rows_in table t) o ≡ b → IsSome a ⊎ IsSome b → (row : Row) × Holds (rows_in previous t) (rows_in table t) row o
      found (Some row) b is is' h = (row, inl is)
      found None (Some row) is is' h = (row, inr is')
      found None None is is' (inl none) = absurd cc
      found None None is is' (inr none) = absurd cc

  of_held : (row : Row) (o : ℕ) → Holds (rows_in previous t) (rows_in other t) row o → IsTaken (rows_in previous t) (rows_in other t) o
  of_held row o (inl before) = inl (ap is_some before)
  of_held row o (inr now) = inr (ap is_some now)

  taken_both : (o : ℕ) → IsTaken (rows_in previous t) (rows_in table t) o → IsTaken (rows_in previous t) (rows_in other t) o
  taken_both o taken = let found = taken_row o taken in of_held found.0 o (held_both found.0 o found.1)

free_both : (previous table other : Table) → SameBeside previous table other → (t o : ℕ) → get (rows_in previous t) o ≡ None → get (rows_in table t) o ≡ None → get (rows_in other t) o ≡ None
free_both previous table other same t o free free_now = of_option (get (rows_in other t) o) refl
  where
    none : (row : Row) → Holds (rows_in previous t) (rows_in table t) row o → ⊥
    none row (inl before) = let e = sym before ∙ free in cc
    none row (inr now) = let e = sym now ∙ free_now in cc

    of_option : (found : Option Row) → get (rows_in other t) o ≡ found → get (rows_in other t) o ≡ None
    of_option None is = is
    of_option (Some row) is = absurd (none row (held_both previous other table (turned previous table other same) t row o (inr is)))

-- the row gets the same ordinal
pub put_both : (previous table other : Table) → SameBeside previous table other → (t o : ℕ) (row : Row) → IsPut (rows_in previous t) (rows_in table t) row o → IsPut (rows_in previous t) (rows_in other t) row o
put_both previous table other same t o row (inl held) = inl (held_both previous table other same t row o held)
put_both previous table other same t o row (inr new) = inr (record {
  absent = λ number held. new.absent number (held_both previous other table (turned previous table other same) t row number held);
  least = record {
    free = new.least.free;
    free_now = free_both previous table other same t o new.least.free new.least.free_now;
    below = λ number under. taken_both previous table other same t number (new.least.below number under);
  };
})

-- ---- a row is put

module _ (previous table other : Table) (same : SameBeside previous table other) (t o : ℕ) (row : Row) (inside : t < length table) where
  either_both : (u q : ℕ) (r : Row) → HasEither previous (with_row table t o row) u q r → HasEither previous (with_row other t o row) u q r
  either_both u q r (inl before) = inl before
  either_both u q r (inr now) =
      let inside' : t < length other = omega (arith, inside, same.types) in
      elim (put_cases table t o row inside u q r now) [
        | inl put ↦ inr (put_there other t o row inside' u q put.0 ∙ ap Some (sym put.1))
        | inr stood ↦ still inside' stood.0 ((same.same u q r).0 (inr stood.1))
      ]
    where
      still : t < length other → (IsThere t o u q → ⊥) → HasEither previous other u q r → HasEither previous (with_row other t o row) u q r
      still inside' apart (inl before) = inl before
      still inside' apart (inr now) = inr (put_other other t o row inside' u q apart ∙ now)

set_both : (previous table other : Table) → SameBeside previous table other → (t o : ℕ) (row : Row) → SameBeside previous (with_row table t o row) (with_row other t o row)
set_both previous table other same t o row =
    elim (cases_lt t (length table)) [
      | inl inside ↦ record {
        types = length_set table t (insert (rows_in table t) o row) ∙ same.types ∙ sym (length_set other t (insert (rows_in other t) o row));
        same = λ u q r. (
          either_both previous table other same t o row inside u q r,
          either_both previous other table (turned previous table other same) t o row (omega (arith, inside, same.types)) u q r,
        );
      }
      | inr past ↦
          subst (λ (one : Table). SameBeside previous one (with_row other t o row)) (sym (set_past table t (insert (rows_in table t) o row) (omega arith)))
          (subst (λ (two : Table). SameBeside previous table two) (sym (set_past other t (insert (rows_in other t) o row) (let types = same.types in omega (arith, past, types)))) same)
    ]

-- a row that is put is put beside, and the tables still hold the same
pub puts_both : (previous table other after : Table) → SameBeside previous table other → (t o : ℕ) (row : Row) → PutsRow previous t row table o after
    → PutsRow previous t row other o (with_row other t o row) × SameBeside previous after (with_row other t o row)
puts_both previous table other after same t o row puts = (
  record { put = put_both previous table other same t o row puts.put; low = puts.low; after_is = refl },
  subst (λ (one : Table). SameBeside previous one (with_row other t o row)) (sym puts.after_is) (set_both previous table other same t o row),
)

-- a row of the first table is put: nothing changes beside it
pub puts_again : (previous table : Table) → TablesAgree previous table → (t o : ℕ) (row : Row) → row_at previous t o ≡ Some row → PutsRow previous t row table o (with_row table t o row) × SameBeside previous table (with_row table t o row)
puts_again previous table agree t o row here = (
  record { put = inl (inl held); low = (agree t).low o (inl (ap is_some held)); after_is = refl },
  elim (cases_lt t (length table)) [
    | inl inside ↦ record {
      types = sym (length_set table t (insert (rows_in table t) o row));
      same = λ u q r. (forth inside u q r, back inside u q r);
    }
    | inr past ↦ subst (λ (two : Table). SameBeside previous table two) (sym (set_past table t (insert (rows_in table t) o row) (omega arith))) (itself previous table)
  ],
)
  where
    held : get (rows_in previous t) o ≡ Some row
    held = get_in previous t o ∙ here

    forth : t < length table → (u q : ℕ) (r : Row) → HasEither previous table u q r → HasEither previous (with_row table t o row) u q r
    forth inside u q r (inl before) = inl before
    forth inside u q r (inr now) =
        elim (is_there t o u q) [
          | inr apart ↦ inr (put_other table t o row inside u q apart ∙ now)
          | inl there ↦
              (let there_now : get (rows_in table t) o ≡ Some r = get_in table t o ∙ ap (row_at table t) (sym there.1) ∙ ap (λ n. row_at table n q) (sym there.0) ∙ now in
              let one : row ≡ r = (agree t).one_row o row r (inl held) (inr there_now) in
              inr (put_there table t o row inside u q there ∙ ap Some one))
        ]

    back : t < length table → (u q : ℕ) (r : Row) → HasEither previous (with_row table t o row) u q r → HasEither previous table u q r
    back inside u q r (inl before) = inl before
    back inside u q r (inr now) =
        elim (put_cases table t o row inside u q r now) [
          | inr stood ↦ inr stood.1
          | inl put ↦ inl (ap (λ n. row_at previous n q) put.0.0 ∙ ap (row_at previous t) put.0.1 ∙ here ∙ ap Some (sym put.1))
        ]

-- the tables agree with the first one alike
pub agree_both : (previous table other : Table) → SameBeside previous table other → TablesAgree previous table → TablesAgree previous other
agree_both previous table other same agree t =
    let back = turned previous table other same in
    record {
      one_ordinal = λ row a b here there. (agree t).one_ordinal row a b (held_both previous other table back t row a here) (held_both previous other table back t row b there);
      one_row = λ o a b here there. (agree t).one_row o a b (held_both previous other table back t a o here) (held_both previous other table back t b o there);
      low = λ o taken. (agree t).low o (taken_both previous other table back t o taken);
    }
