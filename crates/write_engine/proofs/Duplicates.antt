-- A restoring names two equal rows, or finds none.
use Rattle.std.proofs.Common.{◌≡◌, ℕ, ◌<◌, ◌⊎◌, Some, inl, inr, sym, ap, subst, ◌∙◌, arith}
use Rattle.std.specs.Prelude.{List, ℤ, Result, Ok, Err, IsErrAnd, IsSome}
use Rattle.std.proofs.lemmas.Bool.{cases_order}
use Rattle.hol_varint.specs.Yields.{Yields}
use Rattle.schema_model.specs.declared.schema.Schema.{Schema}
use Rattle.row_model.specs.declared.row.Row.{Row}
use Rattle.row_model.specs.Table.{Table, row_at}
use Rattle.row_model.proofs.RowsFrom.{get_in}
use Rattle.write_engine.specs.Agreement.{HoldsOnce}
use Rattle.write_engine.specs.Production.{Production}
use Rattle.write_engine.specs.RestoredRows.{TellsFault}
use Rattle.write_engine.specs.Restoring.{AreEqualRows, HasDistinctRows, HasLowOrdinals, IsFirstDuplicate, IsFirstOfType, IsFreeRestore, TellsRestored, restored_of}
use Rattle.write_engine.specs.declared.restoring.RestoreFault.{RestoreFault}
use Rattle.write_engine.specs.declared.restoring.RestoreFault.TheVariants.{Duplicate, Memory}

module _ (table : Table) where
  -- no two rows of a type are equal
  pub distinct_once : HasLowOrdinals table → ((t : ℕ) → HasDistinctRows table t) → HoldsOnce table
  distinct_once low distinct = record {
    once = λ t a b row here there. one t a b row (sym (get_in table t a) ∙ here) (sym (get_in table t b) ∙ there) (cases_order a b);
    low = λ t ordinal live. low t ordinal (subst (λ row. IsSome row) (get_in table t ordinal) live);
  }
    where
      one : (t a b : ℕ) (row : Row) → row_at table t a ≡ Some row → row_at table t b ≡ Some row → (a ≡ b) ⊎ ((a < b) ⊎ (b < a)) → a ≡ b
      one t a b row here there (inl same) = same
      one t a b row here there (inr (inl below)) = absurd (distinct t a b (row, below, here, there))
      one t a b row here there (inr (inr above)) = absurd (distinct t b a (row, above, there, here))

  pub once_distinct : HoldsOnce table → (t first second : ℕ) → ¬ AreEqualRows table t first second
  once_distinct once t first second equal =
      let same = once.once t first second equal.0 (get_in table t first ∙ equal.2) (get_in table t second ∙ equal.3) in
      omega (arith, same, equal.1)

  one_type : (t u a b c d : ℕ) → IsFirstDuplicate table t a b → IsFirstDuplicate table u c d → t ≡ u
  one_type t u a b c d here there =
      elim (cases_order t u) [
        | inl same ↦ same
        | inr apart ↦ elim apart [
          | inl below ↦ absurd (there.earlier t below a b here.here.equal)
          | inr above ↦ absurd (here.earlier u above c d there.here.equal)
        ]
      ]

  one_second : (t a b c d : ℕ) → IsFirstOfType table t a b → IsFirstOfType table t c d → b ≡ d
  one_second t a b c d here there = omega (arith, here.least c d there.equal, there.least a b here.equal)

  one_first : (t a c b : ℕ) → IsFirstOfType table t a b → IsFirstOfType table t c b → a ≡ c
  one_first t a c b here there =
      elim (cases_order a c) [
        | inl same ↦ same
        | inr apart ↦ elim apart [
          | inl below ↦ absurd (closer t a c b below here there)
          | inr above ↦ absurd (closer t c a b above there here)
        ]
      ]
    where
      closer : (t a c b : ℕ) → a < c → IsFirstOfType table t a b → IsFirstOfType table t c b → ⊥
      closer t a c b below here there =
          let row : Some there.equal.0 ≡ Some here.equal.0 = sym there.equal.3 ∙ here.equal.3 in
          omega (arith, here.least a c (here.equal.0, below, here.equal.2, there.equal.2 ∙ row), there.equal.1)

  -- a table has one duplicate that is the first
  pub one_duplicate : (t u a b c d : ℕ) → IsFirstDuplicate table t a b → IsFirstDuplicate table u c d → ◌≡◌ {A = Result Production RestoreFault} (Err (Duplicate t a b)) (Err (Duplicate u c d))
  one_duplicate t u a b c d here there =
      let type = one_type t u a b c d here there in
      let there' = subst (λ n. IsFirstOfType table n c d) (sym type) there.here in
      let second = one_second t a b c d here.here there' in
      let first = one_first t a c b here.here (subst (λ n. IsFirstOfType table t c n) (sym second) there') in
      λ i. Err (Duplicate (type i) (first i) (second i))

module _ (schemas : List Schema) (table : Table) (tag : ℤ) (version : ℕ) where
  pub fault_tells : (result : Result Production RestoreFault) (fault : RestoreFault) → IsErrAnd result (λ passed. passed ≡ fault) → TellsFault table fault → TellsRestored schemas table tag version result
  fault_tells (Ok producer) fault is told = absurd is
  fault_tells (Err passed) fault is told = of_fault passed (subst (TellsFault table) (sym is) told)
    where
      of_fault : (fault : RestoreFault) → TellsFault table fault → TellsRestored schemas table tag version (Err fault)
      of_fault (Duplicate t first second) told = told
      of_fault Memory told = tt

  pub restored : (result : Result Production RestoreFault) → TellsRestored schemas table tag version result → Yields IsFreeRestore result (Ok (restored_of schemas table tag version)) (HoldsOnce table)
  restored (Ok producer) tells = ((λ is. tells.0), (λ once. inl (ap Ok tells.1)))
  restored (Err (Duplicate t a b)) tells = ((λ is. absurd cc), (λ once. absurd (once_distinct table once t a b tells.here.equal)))
  restored (Err Memory) tells = ((λ is. absurd cc), (λ once. inr tt))

  pub duplicate : (result : Result Production RestoreFault) → TellsRestored schemas table tag version result
      → (t first second : ℕ) → Yields IsFreeRestore result (Err (Duplicate t first second)) (IsFirstDuplicate table t first second)
  duplicate (Ok producer) tells t first second = ((λ is. absurd cc), (λ named. absurd (once_distinct table tells.0 t first second named.here.equal)))
  duplicate (Err (Duplicate u a b)) tells t first second = (
    (λ is. (let type : u ≡ t = cc in
        let one : a ≡ first = cc in
        let two : b ≡ second = cc in
        subst (λ n. IsFirstDuplicate table n first second) type (subst (λ n. IsFirstDuplicate table u n second) one (subst (λ n. IsFirstDuplicate table u a n) two tells)))),
    (λ named. inl (one_duplicate table u t a b first second tells named)),
  )
  duplicate (Err Memory) tells t first second = ((λ is. absurd cc), (λ named. inr tt))
