-- How far the rows of a state have been counted that another one lacks.
use Rattle.std.specs.Prelude.{List, ℕ, ◌≡◌, ◌<◌, ◌≤◌, ◌+◌, ◌⊎◌, length}
use Rattle.schema_model.specs.declared.schema.Schema.{Schema}
use Rattle.row_model.specs.Table.{Table, row_at}
use Rattle.hol_incremental.specs.Counts.{size_of}
use Rattle.kept_sums.specs.Sums.{TypeSums}
use Rattle.hol_incremental.specs.EditKeys.{AreCounts}
use Rattle.hol_incremental.specs.Sums.{AreSums}

-- The rows below a type and an ordinal of it are those of the one state, and all others those of the other.
pub record IsReadTo (before whole : Table) (type_index ordinal : ℕ) (read : Table) : Type 0 where
  pub types : length read ≡ length whole
  pub below : (other place : ℕ) → (other < type_index) ⊎ ((other ≡ type_index) × (place < ordinal)) → row_at read other place ≡ row_at whole other place
  pub above : (other place : ℕ) → (type_index < other) ⊎ ((other ≡ type_index) × (ordinal ≤ place)) → row_at read other place ≡ row_at before other place

-- The counts and the sums are those of the rows that are read so far, and so many steps are counted as there are more of them than before.
pub record CountsTo (schemas : List Schema) (before whole : Table) (type_index ordinal start : ℕ) (counts : List (List ℕ)) (sums : List TypeSums) (steps : ℕ) : Type 0 where
  pub read : Table
  pub is : IsReadTo before whole type_index ordinal read
  pub counted : AreCounts schemas read counts
  pub summed : AreSums schemas read sums
  pub ticked : steps + size_of schemas before ≡ start + size_of schemas read

-- Where the counts and the sums were those of the types below this one, they are now those with this one too.
abbrev pub CountsMore : List Schema → Table → Table → ℕ → List (List ℕ) → List TypeSums → ℕ → List (List ℕ) → List TypeSums → ℕ → Type 0
CountsMore schemas before whole type_index counts sums steps counts' sums' steps' =
    (start : ℕ) → CountsTo schemas before whole type_index 0 start counts sums steps → CountsTo schemas before whole (type_index + 1) 0 start counts' sums' steps'

-- The counts and the sums are those of the whole state, and so many steps are counted as it has rows more.
pub record CountsOf (schemas : List Schema) (before whole : Table) (counts : List (List ℕ)) (sums : List TypeSums) (start steps : ℕ) : Type 0 where
  pub counted : AreCounts schemas whole counts
  pub summed : AreSums schemas whole sums
  pub ticked : steps + size_of schemas before ≡ start + size_of schemas whole
