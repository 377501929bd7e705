-- The UTF-16 units of a text, and the bytes of a STRING: a number of variable length for each unit.
use Rattle.std.specs.Prelude.{◌≡◌, ℕ, ◌<◌, ◌^◌, ◌++◌, drop, List, Option, Some, None, Result, Ok, Err}
use Rattle.std.specs.List.{All, flat_map}
use Rattle.std.specs.Char.Escape.{encode_utf16}
use Rattle.std.specs.Str.{IsUtf8, chars}
use Rattle.hol_varint.specs.declared.fault.UnitsFault.{UnitsFault}
use Rattle.hol_varint.specs.declared.fault.UnitsFault.TheVariants.{BadText, Memory}
use Rattle.hol_varint.specs.Varint.{varint_bytes, VarStandsBelow}

-- Each number is a UTF-16 unit. They need not be well formed.
abbrev pub AreUnits : List ℕ → Type 0
AreUnits units = All (λ unit. unit < 2 ^ 16) units

-- The bytes of a STRING.
abbrev pub units_bytes : List ℕ → List ℕ
units_bytes units = flat_map varint_bytes units

-- The bytes are those of a STRING with these units.
abbrev pub AreUnitsIn : List ℕ → List ℕ → Type 0
AreUnitsIn bytes units = AreUnits units × (bytes ≡ units_bytes units)

-- The bytes are those of no STRING.
abbrev pub IsBadText : List ℕ → Type 0
IsBadText bytes = (units : List ℕ) → AreUnitsIn bytes units → ⊥

-- Want of memory may come in place of any answer.
abbrev pub IsFreeUnits : UnitsFault → Type 0
IsFreeUnits BadText = ⊥
IsFreeUnits Memory = Unit {0}

-- What each answer of the reader of a STRING's bytes tells.
abbrev pub TellsUnits : List ℕ → Result (List ℕ) UnitsFault → Type 0
TellsUnits bytes (Ok units) = AreUnitsIn bytes units
TellsUnits bytes (Err BadText) = IsBadText bytes
TellsUnits bytes (Err Memory) = Unit {0}

-- The UTF-16 units of a text that is given by its UTF-8 bytes: one or two for each character.
abbrev pub text_units : List ℕ → List ℕ
text_units text = flat_map encode_utf16 (chars text)

-- The text is the one, as its UTF-8 bytes, that has these units.
pub record IsTextOf (units text : List ℕ) : Type 0 where
  pub utf8 : IsUtf8 text
  pub same : text_units text ≡ units

-- The units are well-formed UTF-16: they are those of some text.
abbrev pub AreWellFormed : List ℕ → Type 0
AreWellFormed units = (text : List ℕ) × IsTextOf units text

-- A unit stands at the place up to r.1, or none begins there.
abbrev pub TellsUnitAt : List ℕ → ℕ → Option (ℕ × ℕ) → Type 0
TellsUnitAt bytes place (Some r) = VarStandsBelow (2 ^ 16) bytes place r.0 r.1
TellsUnitAt bytes place None = (unit : ℕ) (behind : List ℕ) → unit < 2 ^ 16 → drop place bytes ≡ varint_bytes unit ++ behind → ⊥
