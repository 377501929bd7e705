-- The records that a change puts and the keys of those that it removes: what is asked of them, and how many keys are those of no row; and what a change counts.
use Rattle.std.specs.Prelude.{List, ℕ, ◌≡◌, ◌≤◌, ◌+◌, ◌*◌, Bool, All, AllPairs, MatchBool, count_by, map}
use Rattle.std.specs.List.{AllZip}
use Rattle.schema_model.specs.declared.schema.Schema.{Schema}
use Rattle.row_model.specs.declared.row.Value.{Value}
use Rattle.row_model.specs.Table.{Table, IsLive}
use Rattle.record_trees.specs.FitsTree.{FitsTree}
use Rattle.record_trees.specs.Tree.{plain}
use Rattle.record_trees.specs.declared.tree.Tree.{Tree}
use Rattle.hol_incremental.specs.Beside.{IsFromEither}
use Rattle.hol_incremental.specs.Counts.{keyed_size_of, size_of}
use Rattle.hol_incremental.specs.Edited.{Keys, Records}
use Rattle.hol_incremental.specs.Roots.{IsRowKey, IsTreeKey}
use Rattle.hol_incremental.specs.declared.fault.ChangeFault.{ChangeFault}
use Rattle.hol_incremental.specs.declared.fault.ChangeFault.TheVariants.{Memory, TooMany}

-- the records of the program as plain ones
abbrev pub records : List (ℕ × Tree) → Records
records puts = map (λ entry. (entry.0, plain entry.1)) puts

-- each record fits its type
abbrev pub AreFitting : List Schema → Records → Type 0
AreFitting schemas puts = All (λ entry. FitsTree schemas entry.0 entry.1) puts

-- each record has a primary key
abbrev pub HaveKeys : List Schema → Records → Type 0
HaveKeys schemas puts = All (λ entry. (key : List Value) × IsTreeKey schemas entry.0 entry.1 key) puts

-- no two records of a type have the same primary key
abbrev pub HaveOwnKeys : List Schema → Records → Type 0
HaveOwnKeys schemas puts =
    AllPairs (λ earlier later. (key : List Value) → earlier.0 ≡ later.0 → IsTreeKey schemas earlier.0 earlier.1 key → ¬ IsTreeKey schemas later.0 later.1 key) puts

-- the key is that of a row of its type
abbrev pub IsFound : List Schema → Table → ℕ × List Value → Type 0
IsFound schemas table key = (ordinal : ℕ) × IsLive table key.0 ordinal × IsRowKey schemas table key.0 ordinal key.1

-- So many of the keys are those of no row. Equal ones count each by itself.
abbrev pub CountsMissing : List Schema → Table → Keys → ℕ → Type 0
CountsMissing schemas table removes missing =
    (lost : List Bool) × AllZip (λ key is_lost. MatchBool is_lost (¬ IsFound schemas table key) (IsFound schemas table key)) removes lost × (missing ≡ count_by (λ is_lost. is_lost) lost)

-- A count rose by at most one for each row that left and each that came, and by one more for each that came in a type with a primary key: those that left are
-- the rows of both states that the next one lacks, and those that came are the ones that the previous one lacks.
abbrev pub CountsChange : List Schema → Table → Table → ℕ → ℕ → Type 0
CountsChange schemas previous next before after =
    (both : Table) × IsFromEither previous next both
    × (after + size_of schemas previous + size_of schemas next + keyed_size_of schemas previous ≤ before + 2 * size_of schemas both + keyed_size_of schemas both)

-- want of memory may come in place of any answer
abbrev pub IsFreeChange : ChangeFault → Type 0
IsFreeChange TooMany = ⊥
IsFreeChange Memory = Unit {0}
