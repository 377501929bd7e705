-- Rows that leave a cycle one after another, such as nobody names.
use Rattle.std.specs.Prelude.{List, ℕ, ◌≡◌, ◌≢◌, ◌⊎◌, ◌↔◌, ◌+◌, ◌++◌, All, AllPairs, Contains, length}
use Rattle.schema_model.specs.declared.schema.Schema.{Schema}
use Rattle.row_model.specs.Table.{Table, IsLive}
use Rattle.write_engine.specs.RowDrops.{IsNamed, MayLeave}
use Rattle.hol_incremental.specs.Beside.{IsPartOf}
use Rattle.hol_incremental.specs.Counts.{times_among}
use Rattle.hol_incremental.specs.EditKeys.{count_at}
use Rattle.hol_incremental.specs.Roots.{IsKeyed}

-- the row leaves where nobody names it any longer: its type has no primary key, or it leaves the edited list
abbrev pub MayFall : List Schema → List (ℕ × ℕ) → ℕ × ℕ → Type 0
MayFall schemas leaving row = (¬ IsKeyed schemas row.0) ⊎ Contains leaving row

-- The row may leave: it leaves the edited list, or it is of a type without a primary key and was named at the start.
abbrev pub Goes : List Schema → List (ℕ × ℕ) → Table → ℕ → ℕ → Type 0
Goes schemas leaving start t ordinal = Contains leaving (t, ordinal) ⊎ ((¬ IsKeyed schemas t) × IsNamed schemas start t ordinal)

-- Each row of a table that may leave is named by a row of the table: so none of them does.
pub record IsHeld (schemas : List Schema) (leaving : List (ℕ × ℕ)) (start held : Table) : Type 0 where
  pub named : (type_index ordinal : ℕ) → IsLive held type_index ordinal → Goes schemas leaving start type_index ordinal → IsNamed schemas held type_index ordinal

-- Each of these rows may leave, as no row names it, and none stands there twice.
pub record AreUnnamed (schemas : List Schema) (current : Table) (pending : List (ℕ × ℕ)) : Type 0 where
  pub once : AllPairs (λ a b. a ≢ b) pending
  pub leave : All (λ row. MayLeave schemas current row.0 row.1) pending

-- How far rows have left: all that is left stood there at the start, all that is held is left, each row that has left or is to leave may, and each row that is
-- left is named, or is to leave, or may not.
pub record IsDropping (schemas : List Schema) (leaving : List (ℕ × ℕ)) (start held current : Table) (pending : List (ℕ × ℕ)) : Type 0 where
  pub types : length current ≡ length start
  pub within : IsPartOf current start
  pub keeps : IsPartOf held current
  pub goes : All (λ row. Goes schemas leaving start row.0 row.1) pending
  pub gone : (type_index ordinal : ℕ) → IsLive start type_index ordinal → IsLive current type_index ordinal ⊎ Goes schemas leaving start type_index ordinal
  pub settled : (type_index ordinal : ℕ) → IsLive current type_index ordinal → IsNamed schemas current type_index ordinal ⊎ (Contains pending (type_index, ordinal) ⊎ ¬ Goes schemas leaving start type_index ordinal)

-- Those of some named rows come behind others that have the count 0 now and may leave, each once.
pub record FallsFrom (may : ℕ × ℕ → Type 0) (named : List (ℕ × ℕ)) (counts : List (List ℕ)) (before after : List (ℕ × ℕ)) : Type 0 where
  pub fallen : List (ℕ × ℕ)
  pub behind : after ≡ before ++ fallen
  pub once : AllPairs (λ a b. a ≢ b) fallen
  pub are : (row : ℕ × ℕ) → Contains fallen row ↔ (Contains named row × (count_at counts row.0 row.1 ≡ 0) × may row)

-- Some rows are named less often by one for each place, and those of them that fall to 0 and may leave come behind others.
pub record IsLowered (may : ℕ × ℕ → Type 0) (named : List (ℕ × ℕ)) (counts counts' : List (List ℕ)) (before after : List (ℕ × ℕ)) : Type 0 where
  pub types : length counts' ≡ length counts
  pub lowered : (type_index ordinal : ℕ) → count_at counts' type_index ordinal + times_among type_index ordinal named ≡ count_at counts type_index ordinal
  pub fallen : FallsFrom may named counts' before after
