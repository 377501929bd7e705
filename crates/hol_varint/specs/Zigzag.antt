-- The zigzag numbers of a blob: signed numbers as natural ones, those near 0 as the small ones.
use Rattle.std.specs.Prelude.{ℕ, ◌+◌, ◌*◌, ◌/◌, ◌%◌, ◌==◌, ℤ, pos, negsuc, if◌then◌else◌}

-- 2n for a number from 0 on, and -2n - 1 for a number below 0; `negsuc k` is -k - 1.
abbrev pub zigzag : ℤ → ℕ
zigzag (pos n) = 2 * n
zigzag (negsuc k) = 2 * k + 1

-- The number whose zigzag number this is.
abbrev pub unzigzag : ℕ → ℤ
unzigzag n = if n % 2 == 0 then pos (n / 2) else negsuc (n / 2)
