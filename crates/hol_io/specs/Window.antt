-- What is seen of a buffer of bytes that were taken from a source.
use Rattle.std.specs.Prelude.{◌≡◌, ℕ, ◌≤◌, List, ◌++◌, length, Option, Result, Ok, Err}
use Rattle.std.specs.Result.{IsErrOf}
use Rattle.std.specs.Io.KnownBytes.{Consumes, IsAtEnd, Keeps}
use Rattle.hol_io.specs.Causes.{Rose}
use Rattle.hol_io.specs.declared.lines.LineFault.{LineFault}
use Rattle.hol_io.specs.declared.lines.LineFault.TheVariants.{Read}

-- The bytes of the last line, those that are not given yet, and how many more fit behind them.
pub record Window : Type 0 where
  pub line : List ℕ
  pub pending : List ℕ
  pub room : ℕ

-- So many bytes were taken from the source, and stand behind those that were there.
abbrev pub TakesOn : Option (List ℕ) → Option (List ℕ) → ℕ → List ℕ → List ℕ → Type 0
TakesOn left left' count old new =
    (took : List ℕ) × (length took ≡ count) × Consumes left left' took × (count ≡ 0 → IsAtEnd left') × (new ≡ old ++ took)

-- A read took bytes, or it failed and took none.
abbrev pub ReadsOn : {E : Type 0} → Option (List ℕ) → Option (List ℕ) → Result ℕ E → List ℕ → List ℕ → Type 0
ReadsOn left left' (Ok count) old new = TakesOn left left' count old new
ReadsOn left left' (Err fault) old new = Keeps left left' × (new ≡ old)

-- The count of faults never falls, and a failed read comes only where it rose.
pub record HasReadCause {T : Type 0} (before now : ℕ) (result : Result T LineFault) : Type 0 where
  pub later : before ≤ now
  pub failed : IsErrOf result Read → Rose before now
