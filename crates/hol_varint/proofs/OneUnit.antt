-- The units of a character in UTF-16.
use Rattle.std.proofs.Common.{◌≡◌, ℕ, ◌+◌, ◌-◌, ◌/◌, ◌%◌, ◌<◌, ◌≤◌, [], ◌∷◌, Some, rules}
use Rattle.std.specs.Char.Escape.{encode_utf16}
use Rattle.std.specs.Char.Utf16.{lone_unit_char}

pub one_unit : (c : ℕ) → c < 0x1_0000 → encode_utf16 c ≡ c ∷ []
one_unit c h = search rules

pub two_units : (c : ℕ) → 0x1_0000 ≤ c → encode_utf16 c ≡ (0xD800 + (c - 0x1_0000) / 0x400) ∷ (0xDC00 + (c - 0x1_0000) % 0x400) ∷ []
two_units c h = search rules

pub lone_unit_char_low : (u : ℕ) → u < 0xD800 → lone_unit_char u ≡ Some u
lone_unit_char_low u below = search rules

pub lone_unit_char_high : (u : ℕ) → 0xE000 ≤ u → lone_unit_char u ≡ Some u
lone_unit_char_high u from = search rules

-- u and v are a pair of surrogates
abbrev pub IsPair : ℕ → ℕ → Type 0
IsPair u v = (0xD800 ≤ u) × (u < 0xDC00) × (0xDC00 ≤ v) × (v < 0xE000)
