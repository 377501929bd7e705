-- How many bytes the units of a STRING take.
use Rattle.std.proofs.Common.{◌≡◌, ℕ, ◌+◌, ◌/◌, ◌<◌, ◌≤◌, List, length, ap, ◌∙◌, arith}
use Rattle.std.specs.Prelude.{sum_by}
use Rattle.std.specs.Int.Digits.{digits_of}
use Rattle.std.proofs.lemmas.List.{length-append, length-map}
use Rattle.std.proofs.lemmas.List.Concat.{length-flat_map}
use Rattle.std.proofs.lemmas.Int.Digits.{length-digits_of-le, length-digits_of_step}
use Rattle.hol_varint.specs.Varint.{varint_bytes, high_bytes}
use Rattle.hol_varint.specs.TextUnits.{units_bytes}

-- A number takes a byte for its lowest group, and one for each group above.
bytes_of : (n : ℕ) → length (varint_bytes n) ≡ length (digits_of 128 (n / 128)) + 1
unfolding varint_bytes high_bytes
bytes_of n = length-append _ _ ∙ ap (λ k. k + 1) (length-map (digits_of 128 (n / 128)) (λ group. group + 128))

pub one_byte : (n : ℕ) → n < 128 → length (varint_bytes n) ≡ 1
one_byte n small =
    let none : length (digits_of 128 (n / 128)) ≤ 0 = length-digits_of-le 128 0 (n / 128) (omega arith) (omega arith) in
    omega (arith, bytes_of n)

pub two_bytes : (n : ℕ) → 128 ≤ n → n < 16384 → length (varint_bytes n) ≡ 2
two_bytes n large small =
    let most : length (digits_of 128 (n / 128)) ≤ 1 = length-digits_of-le 128 1 (n / 128) (omega arith) (omega arith) in
    let step = length-digits_of_step 128 (n / 128) (omega arith) (omega arith) in
    omega (arith, bytes_of n)

pub three_bytes : (n : ℕ) → 16384 ≤ n → n < 65536 → length (varint_bytes n) ≡ 3
three_bytes n large small =
    let top : length (digits_of 128 (n / 128 / 128)) ≤ 1 = length-digits_of-le 128 1 (n / 128 / 128) (omega arith) (omega arith) in
    let some = length-digits_of_step 128 (n / 128 / 128) (omega arith) (omega arith) in
    let step = length-digits_of_step 128 (n / 128) (omega arith) (omega arith) in
    omega (arith, bytes_of n)

-- The bytes of all units are those of each.
pub units_counted : (units : List ℕ) → length (units_bytes units) ≡ sum_by (λ unit. length (varint_bytes unit)) units
units_counted units = length-flat_map varint_bytes units
