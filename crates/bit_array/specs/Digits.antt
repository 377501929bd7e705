-- The number of binary digits of a number, by which the widths of a blob's elements are chosen.
use Rattle.std.specs.Prelude.{ℕ, length}
use Rattle.std.specs.Int.Digits.{digits_of}

-- How many binary digits a number has: none for 0.
unfoldable pub digit_count : ℕ → ℕ
digit_count x = length (digits_of 2 x)
