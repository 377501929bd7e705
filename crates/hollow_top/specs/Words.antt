-- The words of a command line: which command they ask for.
use Rattle.std.specs.Prelude.{◌≡◌, ◌≢◌, ℕ, ◌<◌, ◌≤◌, length, slice_index, List, [], ◌∷◌, Option, Some, None, codes}
use Rattle.std.specs.Fmt.{decimal}
use Rattle.hol_io.specs.declared.name.BlobName.{BlobName}
use Rattle.hol_io.specs.declared.name.BlobName.TheVariants.{Snapshot, Delta, Reverse, Announced}
use Rattle.hol_io.specs.Name.{text_of_name, IsName}
use Rattle.hollow_top.specs.declared.words.Command.{Command}
use Rattle.hollow_top.specs.declared.words.Command.TheVariants.{Run, Head, Show, Make}

-- The words of a command, the numbers in decimal.
abbrev pub words_of : Command → List (List ℕ)
words_of Run = codes "run" ∷ []
words_of (Head blob) = codes "head" ∷ text_of_name blob ∷ []
words_of (Show version) = codes "show" ∷ text_of_name (Snapshot version) ∷ []
words_of (Make seed rows cycles) = codes "make" ∷ decimal seed ∷ decimal rows ∷ decimal cycles ∷ []

-- The name is that of a snapshot, a delta or a reverse delta.
abbrev pub IsBlob : BlobName → Type 0
IsBlob (Snapshot version) = Unit {0}
IsBlob (Delta from to) = Unit {0}
IsBlob (Reverse from to) = Unit {0}
IsBlob Announced = ⊥

-- The number is one of this range.
abbrev pub IsFrom : ℕ → ℕ → ℕ → Type 0
IsFrom least most n = (least ≤ n) × (n ≤ most)

-- The names and numbers of a command are in their ranges.
abbrev pub IsCommand : Command → Type 0
IsCommand Run = Unit {0}
IsCommand (Head blob) = IsName blob × IsBlob blob
IsCommand (Show version) = IsName (Snapshot version)
IsCommand (Make seed rows cycles) = IsFrom 0 999999 seed × IsFrom 1 500000 rows × IsFrom 1 1000 cycles

-- The words ask for this command.
abbrev pub Asks : List (List ℕ) → Command → Type 0
Asks words command = IsCommand command × (words_of command ≡ words)

-- What reading words answers: the one command that they ask for, or none exactly where they ask for none.
abbrev pub TellsCommand : List (List ℕ) → Option Command → Type 0
TellsCommand words None = (command : Command) → ¬ Asks words command
TellsCommand words (Some command) = Asks words command × ((other : Command) → Asks words other → other ≡ command)

-- A text begins like a number without sign or leading zeros.
pub record BeginsPlainly (text : List ℕ) : Type 0 where
  pub some : 0 < length text
  pub unsigned : 48 ≤ slice_index text 0
  pub no_zeros : slice_index text 0 ≡ 48 → length text ≡ 1

-- What reading a text as a number of a range answers.
abbrev pub TellsNumber : ℕ → ℕ → List ℕ → Option ℕ → Type 0
TellsNumber least most text None = (value : ℕ) → IsFrom least most value → decimal value ≢ text
TellsNumber least most text (Some value) = IsFrom least most value × (decimal value ≡ text)
