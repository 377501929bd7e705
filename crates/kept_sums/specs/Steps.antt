-- What one row adds to the sums of the first parts, and takes from them.
use Rattle.std.specs.Prelude.{ℕ, ◌+◌, ◌-◌, ◌≡◌, ◌<◌, ◌≤◌, List, get_or, length}
use Rattle.schema_model.specs.declared.schema.Shape.{Shape}
use Rattle.row_model.specs.declared.row.Row.{Row}
use Rattle.kept_sums.specs.Sums.{PartSums, bytes_at, part_of, takes}

-- So many parts, and no row takes any bits in one.
pub record AreNone (count : ℕ) (parts : List PartSums) : Type 0 where
  pub long : length parts ≡ count
  pub counts : (part bits : ℕ) → get_or (part_of parts part).counts bits 0 ≡ 0
  pub bytes : (part : ℕ) → (part_of parts part).bytes ≡ 0

-- The row is added to the first so many parts, and the others stay.
pub record AreAdded (shape : Shape) (row : Row) (count : ℕ) (old new : List PartSums) : Type 0 where
  pub long : length new ≡ length old
  pub counts : (part bits : ℕ) → part < count → get_or (part_of new part).counts bits 0 ≡ get_or (part_of old part).counts bits 0 + takes shape part bits row
  pub bytes : (part : ℕ) → part < count → (part_of new part).bytes ≡ (part_of old part).bytes + bytes_at part row
  pub others : (part : ℕ) → count ≤ part → part_of new part ≡ part_of old part

-- The row is taken from the first so many parts, and the others stay.
pub record AreTaken (shape : Shape) (row : Row) (count : ℕ) (old new : List PartSums) : Type 0 where
  pub long : length new ≡ length old
  pub counts : (part bits : ℕ) → part < count → get_or (part_of new part).counts bits 0 ≡ get_or (part_of old part).counts bits 0 - takes shape part bits row
  pub bytes : (part : ℕ) → part < count → (part_of new part).bytes ≡ (part_of old part).bytes - bytes_at part row
  pub others : (part : ℕ) → count ≤ part → part_of new part ≡ part_of old part
