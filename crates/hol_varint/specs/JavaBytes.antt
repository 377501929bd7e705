-- The parts of a Java UTF text: its bytes without the length, the bytes of one unit, and the low bits of one byte.
use Rattle.std.specs.Prelude.{◌≡◌, ◌⊎◌, ℕ, ◌+◌, ◌^◌, ◌<◌, ◌≤◌, List, ◌++◌, length, drop, slice_index, Option, Some, None, Result, Ok, Err}
use Rattle.hol_varint.specs.declared.fault.UtfFault.{UtfFault}
use Rattle.hol_varint.specs.declared.fault.UtfFault.TheVariants.{Short, BadName, Memory}
use Rattle.hol_varint.specs.JavaUtf.{unit_bytes, AreJavaBytes}

-- The bytes begin with those of the unit, and go on with `behind`.
pub record BeginsWithUnit (bytes : List ℕ) (unit : ℕ) (behind : List ℕ) : Type 0 where
  pub is : unit < 2 ^ 16
  pub spelled : bytes ≡ unit_bytes unit ++ behind

-- What each answer tells of all the bytes of a text, without its length.
abbrev pub TellsJavaBytes : List ℕ → Result (List ℕ) UtfFault → Type 0
TellsJavaBytes bytes (Ok units) = AreJavaBytes bytes units
TellsJavaBytes bytes (Err Short) = ⊥
TellsJavaBytes bytes (Err BadName) = (units : List ℕ) → AreJavaBytes bytes units → ⊥
TellsJavaBytes bytes (Err Memory) = Unit {0}

-- What each answer tells of the front of the bytes: a unit and how many bytes it takes, or none.
abbrev pub TellsUnit : List ℕ → Option (ℕ × ℕ) → Type 0
TellsUnit bytes (Some r) = (0 < r.1) × (r.1 ≤ length bytes) × BeginsWithUnit bytes r.0 (drop r.1 bytes)
TellsUnit bytes None = (unit : ℕ) (behind : List ℕ) → BeginsWithUnit bytes unit behind → ⊥

-- A byte behind a unit's first one stands at the place, with these low 6 bits.
abbrev pub TellsLowBits : List ℕ → ℕ → Option ℕ → Type 0
TellsLowBits bytes place (Some bits) = (slice_index bytes place ≡ 0x80 + bits) × (bits < 64)
TellsLowBits bytes place None = (slice_index bytes place < 0x80) ⊎ (0xC0 ≤ slice_index bytes place)
