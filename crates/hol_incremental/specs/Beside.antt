-- Tables that hold the rows of others beside one another, each row under its own ordinal.
use Rattle.std.specs.Prelude.{ℕ, ◌≡◌, ◌↔◌, ◌⊎◌, Some, length}
use Rattle.row_model.specs.declared.row.Row.{Row}
use Rattle.row_model.specs.Table.{Table, row_at}

-- each row of the first table stands in the second one
abbrev pub IsPartOf : Table → Table → Type 0
IsPartOf table whole = (t ordinal : ℕ) (row : Row) → row_at table t ordinal ≡ Some row → row_at whole t ordinal ≡ Some row

-- Each row of the two tables stands in the third one, and no other does.
pub record IsFromEither (one other both : Table) : Type 0 where
  pub types : length both ≡ length one
  pub first : IsPartOf one both
  pub second : IsPartOf other both
  pub either : (type_index ordinal : ℕ) (row : Row) → row_at both type_index ordinal ≡ Some row → (row_at one type_index ordinal ≡ Some row) ⊎ (row_at other type_index ordinal ≡ Some row)

-- one of the two tables has the row in the type, under the ordinal
abbrev pub HasEither : Table → Table → ℕ → ℕ → Row → Type 0
HasEither previous table t ordinal row = (row_at previous t ordinal ≡ Some row) ⊎ (row_at table t ordinal ≡ Some row)

-- Together with the first table, the two others have the same rows under the same ordinals; and the two have as many types.
pub record SameBeside (previous table other : Table) : Type 0 where
  pub types : length table ≡ length other
  pub same : (type_index ordinal : ℕ) (row : Row) → HasEither previous table type_index ordinal row ↔ HasEither previous other type_index ordinal row
