-- Whether bytes are those of a STRING.
use Rattle.std.specs.Prelude.{◌≡◌, ℕ, ◌-◌, ◌*◌, ◌^◌, ◌<◌, ◌≤◌, ◌++◌, List, length, slice_index, drop, Bool, true, false, Option, Some, None}
use Rattle.hol_varint.specs.Varint.{varint_bytes, VarStandsBelow}
use Rattle.hol_varint.specs.TextUnits.{AreUnitsIn, IsBadText}

-- What each answer tells: the bytes are those of some units, or of none.
abbrev pub TellsAreUnits : List ℕ → Bool → Type 0
TellsAreUnits bytes true = (units : List ℕ) × AreUnitsIn bytes units
TellsAreUnits bytes false = IsBadText bytes

-- A unit stands from the place up to the other, or none begins there.
abbrev pub TellsBehindUnit : List ℕ → ℕ → Option ℕ → Type 0
TellsBehindUnit bytes place (Some next) = (unit : ℕ) × VarStandsBelow (2 ^ 16) bytes place unit next
TellsBehindUnit bytes place None = (unit : ℕ) (behind : List ℕ) → unit < 2 ^ 16 → drop place bytes ≡ varint_bytes unit ++ behind → ⊥

-- A unit may begin at the place: nothing stands before it, or a byte below 128, which ends a unit.
abbrev pub IsBorder : List ℕ → ℕ → Type 0
IsBorder bytes place = 0 < place → slice_index bytes (place - 1) < 128

-- A unit stands from each border on that is at the one place or behind it, and before the other.
abbrev pub HoldUnits : List ℕ → ℕ → ℕ → Type 0
HoldUnits bytes from to = (place : ℕ) → from ≤ place → place < to → IsBorder bytes place → (next : ℕ) × (unit : ℕ) × VarStandsBelow (2 ^ 16) bytes place unit next

-- How far units stand, for the places in steps of 64.
abbrev pub AreReaches : List ℕ → List ℕ → Type 0
AreReaches bytes reaches = (index : ℕ) → index < length reaches → HoldUnits bytes (64 * index) (slice_index reaches index)
