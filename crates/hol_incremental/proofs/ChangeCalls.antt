-- A change by its calls: the producer at its start, with all rows kept, with the records put, and with rows dropped.
use Rattle.std.proofs.Common.{◌≡◌, ◌∙◌, ◌⊎◌, ℕ, List, [], ◌++◌, Result, Ok, Err, length, refl, sym, ap, subst, inl, inr}
use Rattle.std.specs.Prelude.{IsErrAnd}
use Rattle.std.specs.Result.{IsErr}
use Rattle.schema_model.specs.declared.schema.Schema.{Schema}
use Rattle.row_model.specs.Table.{Table}
use Rattle.write_engine.specs.Agreement.{HoldsOnce, TablesAgree}
use Rattle.write_engine.specs.Production.{Production}
use Rattle.write_engine.specs.Soundness.{IsClosedTableOf}
use Rattle.write_engine.specs.StoredRows.{AreStored}
use Rattle.hol_incremental.specs.Changes.{IsFreeChange}
use Rattle.hol_incremental.specs.declared.fault.ChangeFault.{ChangeFault}
use Rattle.hol_incremental.specs.declared.fault.ChangeFault.TheVariants.{Memory, TooMany}
use Rattle.hol_incremental.specs.Edited.{Records, of_first}
use Rattle.hol_incremental.specs.Tops.{AddsMore, AddsTops}
use Rattle.hol_incremental.proofs.ChangeFacts.{agree_once}

-- a refusal is that for too many rows, or for want of memory
pub free_fault : (result : Result ℕ ChangeFault) → IsErr result → (result ≡ Err TooMany) ⊎ IsErrAnd result IsFreeChange
free_fault (Ok missing) err = absurd cc
free_fault (Err TooMany) err = inl refl
free_fault (Err Memory) err = inr tt

module _ (p0 p1 : Production) (k1 : p1 ≡ record p0 { current = p0.previous }) where
  pub schemas_one : p1.schemas ≡ p0.schemas
  schemas_one = ap (λ (p : Production). p.schemas) k1

  pub previous_one : p1.previous ≡ p0.previous
  previous_one = ap (λ (p : Production). p.previous) k1

  pub current_one : p1.current ≡ p0.previous
  current_one = ap (λ (p : Production). p.current) k1

  pub once_of : TablesAgree p1.previous p1.current → HoldsOnce p0.previous
  once_of agree = subst HoldsOnce previous_one (agree_once p1.previous p1.current agree)

  pub adds_of : (puts : Records) (after : Table) (tops gathered : List (ℕ × ℕ)) → gathered ≡ [] → AddsMore p1.schemas p1.previous (of_first (length p1.schemas) puts) p1.current gathered after tops
      → AddsTops p0.schemas p0.previous (of_first (length p0.schemas) puts) p0.previous tops after
  adds_of puts after tops gathered none more =
      let rows : tops ≡ more.0 = more.2 ∙ ap (λ (xs : List (ℕ × ℕ)). xs ++ more.0) none in
      subst (λ (s : List Schema). AddsTops s p0.previous (of_first (length s) puts) p0.previous tops after) schemas_one
      (subst (λ (x : Table). AddsTops p1.schemas x (of_first (length p1.schemas) puts) p0.previous tops after) previous_one
      (subst (λ (x : Table). AddsTops p1.schemas p1.previous (of_first (length p1.schemas) puts) x tops after) current_one
      (subst (λ (xs : List (ℕ × ℕ)). AddsTops p1.schemas p1.previous (of_first (length p1.schemas) puts) p1.current xs after) (sym rows) more.1)))

  pub never_of : (puts : Records) → ((rows : List (ℕ × ℕ)) (after : Table) → AddsTops p1.schemas p1.previous (of_first (length p1.schemas) puts) p1.current rows after → ⊥) → (rows : List (ℕ × ℕ)) (after : Table)
      → AddsTops p0.schemas p0.previous (of_first (length p0.schemas) puts) p0.previous rows after → ⊥
  never_of puts never rows after adds =
      never rows after
      (subst (λ (x : Table). AddsTops p1.schemas p1.previous (of_first (length p1.schemas) puts) x rows after) (sym current_one)
      (subst (λ (x : Table). AddsTops p1.schemas x (of_first (length p1.schemas) puts) p0.previous rows after) (sym previous_one)
      (subst (λ (s : List Schema). AddsTops s p0.previous (of_first (length s) puts) p0.previous rows after) (sym schemas_one) adds)))

  module _ (p2 : Production) (k2 : p2 ≡ record p1 { current = p2.current }) where
    pub schemas_two : p2.schemas ≡ p0.schemas
    schemas_two = ap (λ (p : Production). p.schemas) k2 ∙ schemas_one

    pub previous_two : p2.previous ≡ p0.previous
    previous_two = ap (λ (p : Production). p.previous) k2 ∙ previous_one

    pub closed_of : IsClosedTableOf p2.schemas p2.previous → IsClosedTableOf p0.schemas p0.previous
    closed_of closed = subst (λ (s : List Schema). IsClosedTableOf s p0.previous) schemas_two (subst (λ (x : Table). IsClosedTableOf p2.schemas x) previous_two closed)

    pub stored_of : AreStored p2.previous → AreStored p0.previous
    stored_of stored = subst AreStored previous_two stored

    module _ (p3 : Production) (k3 : p3 ≡ record p2 { current = p3.current }) where
      pub schemas_three : p3.schemas ≡ p0.schemas
      schemas_three = ap (λ (p : Production). p.schemas) k3 ∙ schemas_two

      pub previous_three : p3.previous ≡ p0.previous
      previous_three = ap (λ (p : Production). p.previous) k3 ∙ previous_two
