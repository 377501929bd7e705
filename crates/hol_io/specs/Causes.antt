-- Faults of the outside: each object counts its faults, and a call answers a failure only where that count rose in the call.
use Rattle.std.specs.Prelude.{ℕ, ◌+◌, ◌-◌, ◌^◌, ◌≤◌, min, Result, OnErr}
use Rattle.std.specs.Result.{IsErrOf}
use Rattle.hol_io.specs.declared.store.PutFault.{PutFault}
use Rattle.hol_io.specs.declared.store.PutFault.TheVariants.{Failed}

-- The count rose. A 64-bit count that stands at its last number counts as risen.
abbrev pub Rose : ℕ → ℕ → Type 0
Rose before now = min (before + 1) (2 ^ 64 - 1) ≤ now

-- The count never falls, and the answer is a failure only where the count rose.
pub record HasCause {T E : Type 0} (before now : ℕ) (result : Result T E) : Type 0 where
  pub later : before ≤ now
  pub failed : OnErr result (Rose before now)

-- The same where the failure stands beside want of memory, which has no count.
pub record HasPutCause {T : Type 0} (before now : ℕ) (result : Result T PutFault) : Type 0 where
  pub later : before ≤ now
  pub failed : IsErrOf result Failed → Rose before now
