-- The rows of a type are restored by rising ordinal, and the types in their order.
use Rattle.std.proofs.Common.{◌≡◌, ℕ, zero, suc, ◌+◌, ◌<◌, ◌≤◌, List, [], ◌∷◌, ◌++◌, length, get_or, take, Option, Some, None, inl, inr, refl, sym, ap, subst, ◌∙◌, arith, ◌⊎◌}
use Rattle.std.specs.Prelude.{IsSome, IsErrAnd, IfErr, Result, Ok, Err, option_and_then}
use Rattle.std.specs.FinMap.{get, empty, get-empty, insert}
use Rattle.std.specs.Ordering.{nat_cmp}
use Rattle.std.proofs.lemmas.Bool.{cases_eq, cases_lt}
use Rattle.std.proofs.lemmas.List.{map-append, replicate_more, take_more}
use Rattle.std.proofs.lemmas.Option.{slice_get_past}
use Rattle.row_model.specs.declared.row.Row.{Row}
use Rattle.row_model.specs.Table.{Table, IsBound, IsLive, row_at}
use Rattle.row_model.proofs.RowsFrom.{get_in}
use Rattle.ordinal_map.specs.Restored.{IsUnknown, Restored}
use Rattle.ordinal_map.specs.States.{States}
use Rattle.ordinal_map.proofs.SetRows.{get_beside, get_inserted, same_rows}
use Rattle.write_engine.specs.Cycle.{rows_in}
use Rattle.write_engine.specs.Production.{current_of, no_states, previous_of}
use Rattle.write_engine.specs.Restoring.{HasDistinctRows, IsFirstDuplicate, IsFirstOfType}
use Rattle.write_engine.specs.RestoredRows.{HasRowsBelow, HasRowsOf, HasTypesBelow, TellsFault, TellsType}
use Rattle.write_engine.specs.declared.restoring.RestoreFault.{RestoreFault}
use Rattle.write_engine.specs.declared.restoring.RestoreFault.TheVariants.{Duplicate, Memory}

pub not_live : (row : Option Row) → (IsSome row → ⊥) → row ≡ None
not_live None dead = refl
not_live (Some row) dead = absurd (dead refl)

-- ---- the rows of a type

module _ (table : Table) (t : ℕ) where
  dead_at : (o : ℕ) → (IsLive table t o → ⊥) → row_at table t o ≡ None
  dead_at o dead = not_live (row_at table t o) dead

  pub rows_start : (states : States) → states ≡ no_states → HasRowsBelow table t 0 states
  rows_start states none = record {
    below = λ q low. absurd (omega arith);
    above = λ q high. ap (λ (s : States). get s.previous q) none ∙ get-empty nat_cmp q;
    current = ap (λ (s : States). s.current) none;
    distinct = λ first second low equal. absurd (omega arith);
  }

  -- there is no row under the ordinal
  pub row_skipped : (o : ℕ) (states : States) → HasRowsBelow table t o states → (IsLive table t o → ⊥) → HasRowsBelow table t (o + 1) states
  row_skipped o states has dead = record {
    below = λ q low.
        (elim (cases_eq q o) [
          | inl e ↦ has.above q (omega arith) ∙ sym (ap (row_at table t) e ∙ dead_at o dead)
          | inr apart ↦ has.below q (omega arith)
        ]);
    above = λ q high. has.above q (omega arith);
    current = has.current;
    distinct = λ first second low equal.
        (elim (cases_eq second o) [
          | inl e ↦ absurd (let found = sym equal.3 ∙ ap (row_at table t) e ∙ dead_at o dead in cc)
          | inr apart ↦ has.distinct first second (omega arith) equal
        ]);
  }

  module _ (o : ℕ) (states : States) (row : Row) (has : HasRowsBelow table t o states) (at : row_at table t o ≡ Some row) where
    -- the row under the ordinal is restored
    pub row_more : (after : States) → IsUnknown states row → Restored states o row after → HasRowsBelow table t (o + 1) after
    row_more after unknown is = record {
      below = λ q low.
          (ap (λ (s : States). get s.previous q) is
          ∙ elim (cases_eq q o) [
            | inl e ↦ ap (get (insert states.previous o row)) e ∙ get_inserted states.previous o row ∙ sym (ap (row_at table t) e ∙ at)
            | inr apart ↦ get_beside states.previous o q row apart ∙ has.below q (omega arith)
          ]);
      above = λ q high. ap (λ (s : States). get s.previous q) is ∙ get_beside states.previous o q row (λ e. omega arith) ∙ has.above q (omega arith);
      current = ap (λ (s : States). s.current) is ∙ has.current;
      distinct = λ first second low equal.
          (elim (cases_eq second o) [
            | inl e ↦
                (let same : Some equal.0 ≡ Some row = sym equal.3 ∙ ap (row_at table t) e ∙ at in
                unknown first (has.below first (omega (arith, equal.1)) ∙ equal.2 ∙ same))
            | inr apart ↦ has.distinct first second (omega arith) equal
          ]);
    }

    -- the row under the ordinal stands already
    pub row_named : (first : ℕ) → get states.previous first ≡ Some row → IsFirstOfType table t first o
    row_named first here =
        let low = lower (cases_lt first o) in record {
          equal = (row, low, sym (has.below first low) ∙ here, at);
          least = λ a b equal. (elim (cases_lt b o) [ inl before ↦ absurd (has.distinct a b before equal) | inr later ↦ later ]);
        }
      where
        lower : (first < o) ⊎ (o ≤ first) → first < o
        lower (inl low) = low
        lower (inr high) = absurd (let none = sym here ∙ has.above first high in cc)

  -- all rows are restored
  pub rows_done : (bound reached : ℕ) (states : States) → IsBound table t bound → bound ≤ reached → HasRowsBelow table t reached states → HasRowsOf table t states
  rows_done bound reached states is past has = record {
    previous = same_rows states.previous (rows_in table t) (λ q. (elim (cases_lt q reached) [ inl low ↦ has.below q low | inr high ↦ has.above q high ∙ sym (gone q high) ]) ∙ sym (get_in table t q));
    current = has.current;
    distinct = λ first second equal. elim (cases_lt second reached) [
      | inl low ↦ has.distinct first second low equal
      | inr high ↦ (let found = sym equal.3 ∙ gone second high in absurd cc)
    ];
  }
    where
      gone : (q : ℕ) → reached ≤ q → row_at table t q ≡ None
      gone q high = dead_at q (λ live. let low = is.above q live in omega arith)

-- ---- the types in their order

type_in : (table : Table) (k : ℕ) → k < length table → rows_in table k ≡ get_or table k empty
type_in [] k inside = absurd (omega arith)
type_in (rows ∷ table) zero inside = refl
type_in (rows ∷ table) (suc k) inside = type_in table k (omega arith)

module _ (table : Table) where
  pub types_start : (maps : List States) → maps ≡ [] → HasTypesBelow table 0 maps
  types_start maps none = record {
    previous = ap previous_of none;
    current = ap current_of none;
    distinct = λ t low. absurd (omega arith);
  }

  pub types_more : (k : ℕ) (maps more : List States) (states : States) → HasTypesBelow table k maps → k < length table → HasRowsOf table k states → more ≡ maps ++ states ∷ [] → HasTypesBelow table (k + 1) more
  types_more k maps more states has inside of is = record {
    previous = ap previous_of is ∙ map-append (λ s. s.previous) maps (states ∷ []) ∙ (λ i. has.previous i ++ of.previous i ∷ []) ∙ ap (λ rows. take k table ++ rows ∷ []) (type_in table k inside) ∙ sym (take_more table k empty inside);
    current = ap current_of is ∙ map-append (λ s. s.current) maps (states ∷ []) ∙ (λ i. has.current i ++ of.current i ∷ []) ∙ replicate_more k empty;
    distinct = λ t low. (elim (cases_eq t k) [ inl e ↦ subst (HasDistinctRows table) (sym e) of.distinct | inr apart ↦ has.distinct t (omega arith) ]);
  }

  -- the first type that has equal rows
  pub type_named : (k t first second : ℕ) (maps : List States) → HasTypesBelow table k maps → t ≡ k → IsFirstOfType table k first second → IsFirstDuplicate table t first second
  type_named k t first second maps has is named =
      subst (λ n. IsFirstDuplicate table n first second) (sym is) record { here = named; earlier = has.distinct }

  -- a fault at a type is one of the table
  pub fault_named : (k : ℕ) (maps : List States) (fault : RestoreFault) → HasTypesBelow table k maps → TellsType table k (Err fault) → TellsFault table fault
  fault_named k maps (Duplicate t first second) has tells = type_named k t first second maps has tells.0 tells.1
  fault_named k maps Memory has tells = tt

  -- no type has equal rows
  pub all_distinct : (maps : List States) → HasTypesBelow table (length table) maps → (t : ℕ) → HasDistinctRows table t
  all_distinct maps has t =
      elim (cases_lt t (length table)) [
        | inl low ↦ has.distinct t low
        | inr past ↦ λ first second equal. (let found = sym equal.3 ∙ ap (option_and_then (λ rows. get rows second)) (slice_get_past table t past) in cc)
      ]

pub fault_passed : {A : Type 0} (result : Result A RestoreFault) (fault : RestoreFault) (P : RestoreFault → Type 0) → IsErrAnd result (λ passed. passed ≡ fault) → P fault → IfErr result P
fault_passed (Ok a) fault P is told = absurd is
fault_passed (Err passed) fault P is told = subst P (sym is) told
