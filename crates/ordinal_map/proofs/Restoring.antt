-- What a restoring tells, exactly.
use Rattle.std.proofs.Common.{◌≡◌, ℕ, Some, refl, ap, subst, inl, inr}
use Rattle.std.specs.Prelude.{Result, Ok, Err, IsErrAnd, OnErr}
use Rattle.std.specs.FinMap.{get}
use Rattle.hol_varint.specs.Yields.{Yields}
use Rattle.row_model.specs.declared.row.Row.{Row}
use Rattle.ordinal_map.specs.Assign.{Agree}
use Rattle.ordinal_map.specs.Restored.{IsFreeRestore, IsUnknown, TellsRestore}
use Rattle.ordinal_map.specs.States.{States}
use Rattle.ordinal_map.specs.declared.fault.RestoreRowFault.{RestoreRowFault}
use Rattle.ordinal_map.specs.declared.fault.RestoreRowFault.TheVariants.{Equal, Memory}

module _ (old : States) (o : ℕ) (row : Row) (new : States) where
  pub is_restored : (result : Result (Unit {0}) RestoreRowFault) → TellsRestore old o row new result → Yields IsFreeRestore result (Ok tt) (IsUnknown old row)
  is_restored (Ok tt) tells = ((λ is. tells.0), (λ unknown. inl refl))
  is_restored (Err (Equal other)) tells = ((λ is. absurd cc), (λ unknown. absurd (unknown other tells.0)))
  is_restored (Err Memory) tells = ((λ is. absurd cc), (λ unknown. inr tt))

  before : Agree new.previous new.current → new ≡ old → Agree old.previous old.current
  before agree same = subst (λ (s : States). Agree s.previous s.current) same agree

  pub is_equal : (result : Result (Unit {0}) RestoreRowFault) → Agree new.previous new.current → TellsRestore old o row new result
      → (other : ℕ) → Yields IsFreeRestore result (Err (Equal other)) (get old.previous other ≡ Some row)
  is_equal (Ok tt) agree tells other = ((λ is. absurd cc), (λ here. absurd (tells.0 other here)))
  is_equal (Err (Equal q)) agree tells other = (
    (λ is. (let same : q ≡ other = cc in subst (λ n. get old.previous n ≡ Some row) same tells.0)),
    (λ here. inl (ap (λ n. Err (Equal n)) ((before agree tells.1).one_ordinal row q other (inl tells.0) (inl here)))),
  )
  is_equal (Err Memory) agree tells other = ((λ is. absurd cc), (λ here. inr tt))

  pub is_refused : (result : Result (Unit {0}) RestoreRowFault) → TellsRestore old o row new result → OnErr result (new ≡ old)
  is_refused (Ok tt) tells = tt
  is_refused (Err (Equal q)) tells = tells.1
  is_refused (Err Memory) tells = tells

  -- want of memory leaves both states
  pub no_memory : (result : Result (Unit {0}) RestoreRowFault) → IsErrAnd result (λ fault. fault ≡ Memory) → new ≡ old → TellsRestore old o row new result
  no_memory (Ok tt) failed same = absurd failed
  no_memory (Err (Equal q)) failed same = absurd cc
  no_memory (Err Memory) failed same = same
