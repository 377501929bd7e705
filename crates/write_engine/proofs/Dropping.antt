-- A row that no row names leaves the cycle.
use Rattle.std.proofs.Common.{◌≡◌, ℕ, zero, suc, ◌<◌, List, [], ◌∷◌, length, get_or, slice_set, Some, None, refl, sym, ap, subst, ◌∙◌, inl, inr, arith}
use Rattle.std.specs.Prelude.{All, Contains, IsSome, IsSomeAnd, Option, slice_get}
use Rattle.std.specs.FinMap.{get, remove}
use Rattle.std.proofs.lemmas.Bool.{cases_eq}
use Rattle.std.proofs.lemmas.List.Elements.{Contains-get_or}
use Rattle.schema_model.specs.declared.schema.name.Name.{Name}
use Rattle.schema_model.specs.declared.schema.Schema.{Schema}
use Rattle.schema_model.specs.Parts.{index_of_type}
use Rattle.row_model.specs.declared.row.Row.{Row}
use Rattle.row_model.specs.Row.{references_of_row}
use Rattle.row_model.specs.Table.{RowMap, Table, IsLive, IsLiveByName, row_at}
use Rattle.ordinal_map.specs.Assign.{Agree, Holds, IsTaken}
use Rattle.ordinal_map.specs.States.{States}
use Rattle.ordinal_map.proofs.SetRows.{get_left, get_removed, not_free}
use Rattle.write_engine.specs.Agreement.{TablesAgree}
use Rattle.write_engine.specs.Cycle.{rows_in}
use Rattle.write_engine.specs.Production.{IsProducing, current_of, previous_of}
use Rattle.write_engine.specs.RowDrops.{MayLeave, without_row}
use Rattle.write_engine.specs.Soundness.{IsClosedTableOf}
use Rattle.write_engine.specs.StoredRows.{AreStored}
use Rattle.write_engine.proofs.ClosedStates.{at_rows, at_set, beside_set, length_set}
use Rattle.write_engine.proofs.NextStates.{agree_set}
use Rattle.write_engine.proofs.Puts.{map_set, rows_at, set_same}

-- ---- among the states of all types

-- the states with a row less
abbrev pub less : ℕ → States → States
less ordinal states = record states { current = remove states.current ordinal }

pub live_among : (maps : List States) (t ordinal : ℕ) (d : States) → IsLive (current_of maps) t ordinal → IsSome (get (get_or maps t d).current ordinal)
live_among [] zero ordinal d live = absurd cc
live_among [] (suc t) ordinal d live = absurd cc
live_among (s ∷ maps) zero ordinal d live = live
live_among (s ∷ maps) (suc t) ordinal d live = live_among maps t ordinal d live

module _ (maps : List States) (t ordinal : ℕ) (after d : States) (inside : t < length maps) (is : after ≡ less ordinal (get_or maps t d)) where
  pub drop_previous : previous_of (slice_set maps t after) ≡ previous_of maps
  drop_previous = map_set (λ s. s.previous) maps t after ∙ set_same (λ s. s.previous) maps t after d inside (ap (λ (s : States). s.previous) is)

  pub drop_current : current_of (slice_set maps t after) ≡ without_row (current_of maps) t ordinal
  drop_current =
      map_set (λ s. s.current) maps t after
      ∙ ap (λ rows. slice_set (current_of maps) t rows) (ap (λ (s : States). s.current) is ∙ ap (λ rows. remove rows ordinal) (sym (rows_at (λ s. s.current) maps t d inside)))

-- ---- the table with a row less

module _ (table : Table) (t ordinal : ℕ) (inside : t < length table) where
  left_at : (o : ℕ) → row_at (without_row table t ordinal) t o ≡ get (remove (rows_in table t) ordinal) o
  left_at o = at_set table t o (remove (rows_in table t) ordinal) inside

  -- another row stays
  pub row_stays : (u o : ℕ) → ((u ≡ t) × (o ≡ ordinal) → ⊥) → row_at (without_row table t ordinal) u o ≡ row_at table u o
  row_stays u o other =
      elim (cases_eq u t) [
        | inr apart ↦ beside_set table t u o (remove (rows_in table t) ordinal) apart
        | inl same ↦ subst (λ n. row_at (without_row table t ordinal) n o ≡ row_at table n o) (sym same)
            (left_at o ∙ get_left (rows_in table t) ordinal o (λ e. other (same, e)) ∙ at_rows table t o inside)
      ]

  row_gone : row_at (without_row table t ordinal) t ordinal ≡ None
  row_gone = left_at ordinal ∙ get_removed (rows_in table t) ordinal

  -- a row that is left stood there
  pub row_stood : (u o : ℕ) (row : Row) → row_at (without_row table t ordinal) u o ≡ Some row → row_at table u o ≡ Some row
  row_stood u o row is =
      elim (cases_eq u t) [
        | inr apart ↦ sym (row_stays u o (λ same. apart same.0)) ∙ is
        | inl same ↦
            elim (cases_eq o ordinal) [
              | inr apart ↦ sym (row_stays u o (λ both. apart both.1)) ∙ is
              | inl here ↦ let e = sym is ∙ ap (λ n. row_at (without_row table t ordinal) n o) same ∙ ap (row_at (without_row table t ordinal) t) here ∙ row_gone in absurd cc
            ]
      ]

live_inside : (table : Table) (t o : ℕ) → IsLive table t o → t < length table
live_inside [] zero o live = absurd cc
live_inside [] (suc t) o live = absurd cc
live_inside (r ∷ table) zero o live = omega arith
live_inside (r ∷ table) (suc t) o live = let below = live_inside table t o live in omega arith

module _ (schemas : List Schema) (table : Table) (t ordinal : ℕ) (closed : IsClosedTableOf schemas table) (leaves : MayLeave schemas table t ordinal) where
  inside : t < length table
  inside = live_inside table t ordinal leaves.live

  -- what another row names is still live
  still_live : (u o : ℕ) (schema : Schema) (row : Row) (name : Name) (q : ℕ) → slice_get schemas u ≡ Some schema → row_at table u o ≡ Some row → Contains (references_of_row schema.shape row) (name, q)
      → (index : Option ℕ) → index_of_type schemas name ≡ index → IsSomeAnd index (λ v. IsLive table v q) → IsSomeAnd index (λ v. IsLive (without_row table t ordinal) v q)
  still_live u o schema row name q of here names None is live = absurd live
  still_live u o schema row name q of here names (Some v) is live = subst IsSome (sym (row_stays table t ordinal inside v q other)) live
    where
      other : (v ≡ t) × (q ≡ ordinal) → ⊥
      other same = leaves.unnamed (record {
        type_index = u;
        place = o;
        schema = schema;
        row = row;
        name = name;
        schema_is = of;
        row_is = here;
        names = subst (λ n. Contains (references_of_row schema.shape row) (name, n)) same.1 names;
        type_is = is ∙ ap Some same.0;
      })

  pub drop_closed : IsClosedTableOf schemas (without_row table t ordinal)
  drop_closed = record {
    fits = record {
      types = length_set table t (remove (rows_in table t) ordinal) ∙ closed.fits.types;
      rows = λ u o schema row of here. closed.fits.rows u o schema row of (row_stood table t ordinal inside u o row here);
      ranges = λ u o schema row of here. closed.fits.ranges u o schema row of (row_stood table t ordinal inside u o row here);
    };
    closed = λ u o schema row of here. named u o schema row of (row_stood table t ordinal inside u o row here);
  }
    where
      named : (u o : ℕ) (schema : Schema) (row : Row) → slice_get schemas u ≡ Some schema → row_at table u o ≡ Some row
          → All (λ (named : Name × ℕ). IsLiveByName schemas (without_row table t ordinal) named.0 named.1) (references_of_row schema.shape row)
      named u o schema row of here k d within =
          let reference = get_or (references_of_row schema.shape row) k d in
          still_live u o schema row reference.0 reference.1 of here (Contains-get_or (references_of_row schema.shape row) k d within) (index_of_type schemas reference.0) refl (closed.closed u o schema row of here k d within)

-- ---- a producer

module _ (previous current : RowMap) (ordinal : ℕ) (agree : Agree previous current) where
  stood : (row : Row) (o : ℕ) → Holds previous (remove current ordinal) row o → Holds previous current row o
  stood row o (inl before) = inl before
  stood row o (inr now) =
      elim (cases_eq o ordinal) [
        | inl e ↦ let none = sym now ∙ ap (get (remove current ordinal)) e ∙ get_removed current ordinal in absurd cc
        | inr apart ↦ inr (sym (get_left current ordinal o apart) ∙ now)
      ]

  taken : (o : ℕ) → IsTaken previous (remove current ordinal) o → IsTaken previous current o
  taken o (inl before) = inl before
  taken o (inr now) =
      elim (cases_eq o ordinal) [
        | inl e ↦ absurd (not_free (get (remove current ordinal) o) (ap (get (remove current ordinal)) e ∙ get_removed current ordinal) now)
        | inr apart ↦ inr (subst IsSome (get_left current ordinal o apart) now)
      ]

  agree_left : Agree previous (remove current ordinal)
  agree_left = record {
    one_ordinal = λ row a b here there. agree.one_ordinal row a b (stood row a here) (stood row b there);
    one_row = λ o a b here there. agree.one_row o a b (stood a o here) (stood b o there);
    low = λ o is. agree.low o (taken o is);
  }

pub drop_producing : (schemas : List Schema) (maps after : List States) (t ordinal : ℕ) → IsProducing schemas maps → MayLeave schemas (current_of maps) t ordinal → previous_of after ≡ previous_of maps
    → current_of after ≡ without_row (current_of maps) t ordinal → IsProducing schemas after
drop_producing schemas maps after t ordinal producing leaves before now = record {
  previous = subst (IsClosedTableOf schemas) (sym before) producing.previous;
  current = subst (IsClosedTableOf schemas) (sym now) (drop_closed schemas (current_of maps) t ordinal producing.current leaves);
  agree = subst (λ (table : Table). TablesAgree table (current_of after)) (sym before)
      (subst (λ (table : Table). TablesAgree (previous_of maps) table) (sym now)
      (agree_set (previous_of maps) (current_of maps) t (remove (rows_in (current_of maps) t) ordinal) producing.agree (agree_left (rows_in (previous_of maps) t) (rows_in (current_of maps) t) ordinal (producing.agree t))));
  stored_previous = subst AreStored (sym before) producing.stored_previous;
  stored_current = subst AreStored (sym now)
      (λ u o row is. producing.stored_current u o row (row_stood (current_of maps) t ordinal (live_inside (current_of maps) t ordinal leaves.live) u o row is));
}
