-- Hashes of ordinals, by which a bucket run finds them: numbers of 32 bits, with sums and products that wrap.
use Rattle.std.specs.Prelude.{ℕ, ◌+◌, ◌-◌, ◌*◌, ◌/◌, ◌%◌, ◌^◌, bit_xor}

-- The number with the one that stands so many binary places lower, bit by bit: exclusive or.
abbrev pub folded : ℕ → ℕ → ℕ
folded places number = bit_xor number (number / 2 ^ places)

-- The first step: the complement of the number, and the number 15 binary places higher.
abbrev pub complemented : ℕ → ℕ
complemented number = (2 ^ 32 - 1 - number + number * 2 ^ 15 % 2 ^ 32) % 2 ^ 32

-- The hash of an ordinal.
unfoldable pub hash_of : ℕ → ℕ
hash_of ordinal = folded 16 (folded 4 (folded 12 (complemented ordinal) * 5 % 2 ^ 32) * 2057 % 2 ^ 32)
