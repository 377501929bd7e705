-- The Java UTF texts of a blob: a length of two bytes, and one to three bytes for each UTF-16 unit.
use Rattle.std.specs.Prelude.{◌≡◌, ℕ, ◌+◌, ◌-◌, ◌*◌, ◌/◌, ◌%◌, ◌^◌, ◌<◌, ◌≤◌, ◌&&◌, nat_lt, if◌then◌else◌, List, [], ◌∷◌, length, take, drop, slice_index, Result, Ok, Err}
use Rattle.std.specs.List.{flat_map}
use Rattle.hol_varint.specs.declared.fault.UtfFault.{UtfFault}
use Rattle.hol_varint.specs.declared.fault.UtfFault.TheVariants.{Short, BadName, Memory}
use Rattle.hol_varint.specs.TextUnits.{AreUnits}

-- One byte for 1 to 7F, two bytes for 0 and for 80 to 7FF, and three bytes for the rest; the bytes behind the first hold 6 bits each.
unfoldable pub unit_bytes : ℕ → List ℕ
unit_bytes unit =
    if nat_lt 0 unit && nat_lt unit 0x80 then unit ∷ []
    else if nat_lt unit 0x800 then (0xC0 + unit / 64) ∷ (0x80 + unit % 64) ∷ []
    else (0xE0 + unit / 4096) ∷ (0x80 + unit / 64 % 64) ∷ (0x80 + unit % 64) ∷ []

-- The bytes of a text without its length.
abbrev pub java_bytes : List ℕ → List ℕ
java_bytes units = flat_map unit_bytes units

-- The bytes of a text with its length in bytes before it, the high byte first.
unfoldable pub utf_bytes : List ℕ → List ℕ
utf_bytes units = length (java_bytes units) / 256 ∷ length (java_bytes units) % 256 ∷ java_bytes units

-- The bytes from `at` up to `next` are the text of these units.
pub record UtfStandsAt (bytes : List ℕ) (at : ℕ) (units : List ℕ) (next : ℕ) : Type 0 where
  pub from : at ≤ next
  pub within : next ≤ length bytes
  pub are : AreUnits units
  pub fits : length (java_bytes units) < 2 ^ 16
  pub spelled : take (next - at) (drop at bytes) ≡ utf_bytes units

-- The bytes are a text of these units, without its length.
abbrev pub AreJavaBytes : List ℕ → List ℕ → Type 0
AreJavaBytes bytes units = AreUnits units × (bytes ≡ java_bytes units)

-- The length that the first two bytes give.
abbrev pub text_length : List ℕ → ℕ
text_length rest = slice_index rest 0 * 256 + slice_index rest 1

-- The bytes end before the length does, or before the text that it announces.
abbrev pub UtfEndsInside : List ℕ → Type 0
UtfEndsInside rest = length rest < 2 + text_length rest

-- The announced bytes are there, and they are the bytes of no units.
pub record IsBadUtf (rest : List ℕ) : Type 0 where
  pub whole : 2 + text_length rest ≤ length rest
  pub other : (units : List ℕ) → AreJavaBytes (take (text_length rest) (drop 2 rest)) units → ⊥

-- Want of memory may come in place of any answer.
abbrev pub IsFreeUtf : UtfFault → Type 0
IsFreeUtf Short = ⊥
IsFreeUtf BadName = ⊥
IsFreeUtf Memory = Unit {0}

-- What each answer of the reader tells of the bytes from `at` on.
abbrev pub TellsUtf : List ℕ → ℕ → Result (List ℕ × ℕ) UtfFault → Type 0
TellsUtf bytes at (Ok r) = UtfStandsAt bytes at r.0 r.1
TellsUtf bytes at (Err Short) = UtfEndsInside (drop at bytes)
TellsUtf bytes at (Err BadName) = IsBadUtf (drop at bytes)
TellsUtf bytes at (Err Memory) = Unit {0}
