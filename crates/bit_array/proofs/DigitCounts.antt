-- Lemmas on the number of binary digits.
use Rattle.std.proofs.Common.{◌≡◌, ℕ, ◌+◌, ◌-◌, ◌*◌, ◌/◌, ◌^◌, ◌<◌, ◌≤◌, suc, zero, refl, sym, ap, ◌∙◌, subst, inl, inr, arith, add-one}
use Rattle.std.proofs.lemmas.Bool.{cases_lt}
use Rattle.std.proofs.lemmas.Nat.{leading_length, pow_pos}
use Rattle.std.proofs.lemmas.Int.Digits.{length-digits_of_step, length-digits_of-le, number_lt, number_digits_of, all_below_base_digits_of}
use Rattle.std.proofs.Math.Nat.{pow-suc}
use Rattle.std.proofs.lemmas.Nat.Bits.{ones_shr}
use Rattle.std.specs.Int.Count.{count_leading_zeros}
use Rattle.std.specs.Int.Digits.{digits_of}
use Rattle.bit_array.specs.Digits.{digit_count}

-- a number fits in as many bits as it has digits
pub digit_count-holds : (x : ℕ) → x < 2 ^ digit_count x
unfolding digit_count
digit_count-holds x =
    rw (number_digits_of 2 x (omega arith)) at (number_lt 2 (digits_of 2 x) (all_below_base_digits_of 2 x (omega arith)))

-- a number that fits in some bits has no more digits
pub digit_count-le : (x width : ℕ) → x < 2 ^ width → digit_count x ≤ width
unfolding digit_count
digit_count-le x width h = length-digits_of-le 2 width x (omega arith) h

-- a number that is not 0 has one digit more than its half
digit_count-half : (x : ℕ) → 0 < x → digit_count x ≡ digit_count (x / 2) + 1
unfolding digit_count
digit_count-half x h = length-digits_of_step 2 x (omega arith) h

-- the number of digits is the one power of two that is above the number and not above twice it and one
digit_count_is : (x count : ℕ) → x < 2 ^ count → 2 ^ count ≤ 2 * x + 1 → digit_count x ≡ count
unfolding digit_count
digit_count_is zero zero above near = refl
digit_count_is (suc x) zero above near = absurd (omega arith)
digit_count_is x (suc count) above near =
    let double : 2 ^ suc count ≡ 2 ^ count * 2 = pow-suc 2 count in
    let some : 0 < x = omega (arith, pow_pos count) in
    digit_count-half x some
    ∙ ap (λ n. n + 1) (digit_count_is (x / 2) count (omega arith) (omega arith))
    ∙ add-one count

-- what is left of 64 by the zeros above a number's highest digit
pub digit_count-leading : (x : ℕ) → x < 2 ^ 64 → 64 - count_leading_zeros 64 x ≡ digit_count x
digit_count-leading x h =
    let all = leading_length 64 x h in
    let rest : 64 - count_leading_zeros 64 x ≡ all.0 = omega (arith, all.1) in
    rest ∙ sym (digit_count_is x all.0 all.2 all.3)

-- a number that is not 0 does not fit in fewer bits
pub digit_count-least : (x : ℕ) → 0 < x → 2 ^ (digit_count x - 1) ≤ x
digit_count-least x h =
    let holds = digit_count-holds x in
    elim (cases_lt x (2 ^ (digit_count x - 1))) [
      | inl small ↦
          let few : digit_count x ≤ digit_count x - 1 = digit_count-le x (digit_count x - 1) small in
          let none : digit_count x ≡ 0 = omega arith in
          let zero_only : x < 2 ^ 0 = subst (λ k. x < 2 ^ k) none holds in
          absurd (omega arith)
      | inr large ↦ large
    ]

-- the greatest of 64 bits, shifted so that so many are left
pub all_ones_shifted : (width : ℕ) → width ≤ 64 → 18446744073709551615 / 2 ^ (64 - width) ≡ 2 ^ width - 1
all_ones_shifted width within =
    let e : 64 - (64 - width) ≡ width = omega arith in
    ones_shr 64 (64 - width) (omega arith) ∙ ap (λ k. 2 ^ k - 1) e
