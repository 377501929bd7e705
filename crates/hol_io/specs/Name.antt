-- The names of blobs: which there are, their texts, and the order in which a store lists them.
use Rattle.std.specs.Prelude.{◌≡◌, ◌≢◌, ℕ, ◌^◌, ◌<◌, ◌≤◌, nat_lt, if◌then◌else◌, List, [], ◌∷◌, ◌++◌, codes, Option, None, Some}
use Rattle.std.specs.Fmt.{decimal}
use Rattle.std.specs.declared.cmp.Ordering.{Ordering}
use Rattle.std.specs.Ordering.{nat_cmp, on}
use Rattle.std.specs.Cmp.Lexicographic.{slice_cmp}
use Rattle.hol_io.specs.declared.name.BlobName.{BlobName}
use Rattle.hol_io.specs.declared.name.BlobName.TheVariants.{Snapshot, Delta, Reverse, Announced}

-- The kind of a name, and then its numbers.
abbrev pub name_key : BlobName → List ℕ
name_key (Snapshot version) = 0 ∷ version ∷ []
name_key (Delta from to) = 1 ∷ from ∷ to ∷ []
name_key (Reverse from to) = 2 ∷ from ∷ to ∷ []
name_key Announced = 3 ∷ []

-- Snapshots, deltas, reverse deltas, the announced version, each kind by its numbers rising.
abbrev pub name_cmp : BlobName → BlobName → Ordering
name_cmp = on name_key (slice_cmp nat_cmp)

-- What leads from one version to another: the delta to a later one, and the reverse delta to another one.
abbrev pub step_name : ℕ → ℕ → BlobName
step_name from to = if nat_lt from to then Delta from to else Reverse from to

-- It leads from one version to another.
abbrev pub IsStepName : BlobName → Type 0
IsStepName (Delta from to) = Unit {0}
IsStepName (Reverse from to) = Unit {0}
IsStepName _ = ⊥

-- Two versions in decimal with a dash between them.
abbrev pub text_of_step : ℕ → ℕ → List ℕ
text_of_step from to = decimal from ++ (codes "-" ++ decimal to)

-- The bytes of a name's text.
abbrev pub text_of_name : BlobName → List ℕ
text_of_name (Snapshot version) = codes "snapshot-" ++ decimal version
text_of_name (Delta from to) = codes "delta-" ++ text_of_step from to
text_of_name (Reverse from to) = codes "reversedelta-" ++ text_of_step from to
text_of_name Announced = codes "announced.version"

-- A version is a number from 1 to 2^63 - 1.
abbrev pub IsVersion : ℕ → Type 0
IsVersion version = (1 ≤ version) × (version < 2 ^ 63)

-- A delta leads to a later version, and a reverse delta to an earlier one.
abbrev pub IsName : BlobName → Type 0
IsName (Snapshot version) = IsVersion version
IsName (Delta from to) = IsVersion from × IsVersion to × (from < to)
IsName (Reverse from to) = IsVersion from × IsVersion to × (to < from)
IsName Announced = Unit {0}

-- The text is that of this name.
abbrev pub Names : List ℕ → BlobName → Type 0
Names text name = IsName name × (text_of_name name ≡ text)

-- What reading a text as a version answers.
abbrev pub TellsVersion : List ℕ → Option ℕ → Type 0
TellsVersion text None = (version : ℕ) → IsVersion version → decimal version ≢ text
TellsVersion text (Some version) = IsVersion version × (decimal version ≡ text)

-- What reading a text as two versions answers.
abbrev pub TellsStep : List ℕ → Option (ℕ × ℕ) → Type 0
TellsStep text None = (from to : ℕ) → IsVersion from → IsVersion to → text_of_step from to ≢ text
TellsStep text (Some step) = IsVersion step.0 × IsVersion step.1 × (text_of_step step.0 step.1 ≡ text)

-- What reading a text as a name answers.
abbrev pub TellsName : List ℕ → Option BlobName → Type 0
TellsName text None = (name : BlobName) → ¬ Names text name
TellsName text (Some name) = Names text name
