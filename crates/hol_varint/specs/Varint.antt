-- The integers of variable length of a blob: VInts, below 2^32, and VLongs, below 2^64.
use Rattle.std.specs.Prelude.{◌≡◌, ◌≢◌, ℕ, ◌+◌, ◌-◌, ◌*◌, ◌/◌, ◌%◌, ◌^◌, ◌<◌, ◌≤◌, List, [], ◌∷◌, ◌++◌, map, length, take, drop, slice_index, Result, Ok, Err}
use Rattle.std.specs.Int.Digits.{digits_of}
use Rattle.hol_varint.specs.declared.fault.VarFault.{VarFault}
use Rattle.hol_varint.specs.declared.fault.VarFault.TheVariants.{Short, Null, Long}

-- The bytes are the groups of 7 bits that are still to come of a number whose groups before them make `high`. Each byte but the last has its high bit set.
abbrev pub SpellsOn : ℕ → List ℕ → ℕ → Type 0
SpellsOn high [] number = ⊥
SpellsOn high (b ∷ []) number = (b < 128) × (number ≡ high * 128 + b)
SpellsOn high (b ∷ c ∷ bs) number = (128 ≤ b) × (b < 256) × SpellsOn (high * 128 + (b - 128)) (c ∷ bs) number

-- The bytes spell the number, the highest group first. None but the null begins with 80 hexadecimal, so there is one spelling.
pub record IsVarint (bytes : List ℕ) (number : ℕ) : Type 0 where
  pub groups : SpellsOn 0 bytes number
  pub first : slice_index bytes 0 ≢ 128

-- The groups of 7 bits of a number, the highest first, with the high bit set on each.
unfoldable pub high_bytes : ℕ → List ℕ
high_bytes number = map (λ group. group + 128) (digits_of 128 number)

-- That one spelling: the high bit is set on each group but the lowest.
unfoldable pub varint_bytes : ℕ → List ℕ
varint_bytes number = high_bytes (number / 128) ++ number % 128 ∷ []

-- The bytes from `at` up to `next` spell the number, and it is below the limit.
pub record VarStandsBelow (limit : ℕ) (bytes : List ℕ) (at number next : ℕ) : Type 0 where
  pub from : at ≤ next
  pub within : next ≤ length bytes
  pub spelled : IsVarint (take (next - at) (drop at bytes)) number
  pub below : number < limit

abbrev pub VintStandsAt : List ℕ → ℕ → ℕ → ℕ → Type 0
VintStandsAt = VarStandsBelow (2 ^ 32)

abbrev pub VlongStandsAt : List ℕ → ℕ → ℕ → ℕ → Type 0
VlongStandsAt = VarStandsBelow (2 ^ 64)

-- Each byte has its high bit set, so that more groups come.
abbrev pub GoOn : List ℕ → Type 0
GoOn [] = Unit {0}
GoOn (b ∷ bs) = (128 ≤ b) × (b < 256) × GoOn bs

-- The bytes end before the number does: there is none, or each goes on, and the first is not the null.
pub record VarEndsInside (rest : List ℕ) : Type 0 where
  pub on : GoOn rest
  pub first : slice_index rest 0 ≢ 128

-- The null stands in the number's place, a byte 80 hexadecimal.
abbrev pub IsNullVar : List ℕ → Type 0
IsNullVar rest = slice_index rest 0 ≡ 128

-- The bytes begin with the spelling of a number that is not below the limit.
pub record IsLongVar (limit : ℕ) (rest : List ℕ) : Type 0 where
  pub bytes : List ℕ
  pub behind : List ℕ
  pub number : ℕ
  pub begins : rest ≡ bytes ++ behind
  pub spelled : IsVarint bytes number
  pub over : limit ≤ number

abbrev pub IsLongVint : List ℕ → Type 0
IsLongVint = IsLongVar (2 ^ 32)

abbrev pub IsLongVlong : List ℕ → Type 0
IsLongVlong = IsLongVar (2 ^ 64)

-- What each answer of a reader tells of the bytes from `at` on.
abbrev pub TellsVar : ℕ → List ℕ → ℕ → Result (ℕ × ℕ) VarFault → Type 0
TellsVar limit bytes at (Ok r) = VarStandsBelow limit bytes at r.0 r.1
TellsVar limit bytes at (Err Short) = VarEndsInside (drop at bytes)
TellsVar limit bytes at (Err Null) = IsNullVar (drop at bytes)
TellsVar limit bytes at (Err Long) = IsLongVar limit (drop at bytes)

abbrev pub TellsVint : List ℕ → ℕ → Result (ℕ × ℕ) VarFault → Type 0
TellsVint = TellsVar (2 ^ 32)

abbrev pub TellsVlong : List ℕ → ℕ → Result (ℕ × ℕ) VarFault → Type 0
TellsVlong = TellsVar (2 ^ 64)
