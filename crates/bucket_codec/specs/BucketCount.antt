-- How many buckets a set or map has that is written.
use Rattle.std.specs.Prelude.{◌≡◌, ℕ, zero, suc, ◌-◌, ◌*◌, ◌/◌, ◌^◌, ◌≤◌}
use Rattle.bit_array.specs.Digits.{digit_count}

-- The least power of two that is at least a number.
pub record IsLeastPower (least count : ℕ) : Type 0 where
  pub power : (exponent : ℕ) × (count ≡ 2 ^ exponent)
  pub enough : least ≤ count
  pub none_less : (exponent : ℕ) → least ≤ 2 ^ exponent → count ≤ 2 ^ exponent

-- So many elements take so many buckets: 1 for none, 2 for one, 4 for two, and else the least power of two that is at least ten sevenths of them.
abbrev pub IsBucketCount : ℕ → ℕ → Type 0
IsBucketCount zero count = count ≡ 1
IsBucketCount (suc zero) count = count ≡ 2
IsBucketCount (suc (suc zero)) count = count ≡ 4
IsBucketCount elements count = IsLeastPower (10 * elements / 7) count

-- That number, by the binary digits of one less than ten sevenths.
unfoldable pub bucket_count : ℕ → ℕ
bucket_count zero = 1
bucket_count (suc zero) = 2
bucket_count (suc (suc zero)) = 4
bucket_count elements = 2 ^ digit_count (10 * elements / 7 - 1)
