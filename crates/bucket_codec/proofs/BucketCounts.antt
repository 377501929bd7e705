-- Lemmas on the number of buckets: the next power of two is the least one.
use Rattle.std.proofs.Common.{◌≡◌, ℕ, zero, suc, ◌-◌, ◌*◌, ◌/◌, ◌%◌, ◌^◌, ◌<◌, ◌≤◌, max, true, false, eqb, nat_eq, MatchBool, arith, refl, ap, sym, subst, ◌∙◌, ⊎_elim}
use Rattle.std.specs.Int.{IsPowerOfTwo}
use Rattle.std.proofs.lemmas.Bool.Decides.{eqb_tells}
use Rattle.std.proofs.Math.Nat.{pow-suc, mod-eq_of_lt}
use Rattle.std.proofs.Math.Pow.{pow_mono}
use Rattle.std.proofs.lemmas.Bool.{cases_lt}
use Rattle.std.proofs.lemmas.Nat.{pow_pos}
use Rattle.bucket_codec.specs.BucketCount.{IsBucketCount, bucket_count}
use Rattle.bit_array.specs.Digits.{digit_count}

-- a power of two whose half is below the number is at most each power that is not
none_less : (least count k e : ℕ) → count ≡ 2 ^ k → count / 2 < max 1 least → least ≤ 2 ^ e → count ≤ 2 ^ e
none_less least count zero e is half enough = let one : count ≡ 1 = is in let some = pow_pos e in omega arith
none_less least count (suc k) e is half enough =
    let twice : count ≡ 2 ^ k * 2 = is ∙ pow-suc 2 k in
    let some = pow_pos e in
    ⊎_elim
    (λ (more : e < suc k). let up : 2 ^ e ≤ 2 ^ k = pow_mono (omega arith) in omega arith)
    (λ (less : suc k ≤ e). let up : 2 ^ suc k ≤ 2 ^ e = pow_mono less in omega arith)
    (cases_lt e (suc k))

-- the power of two of the digits of one less is the least that is at least a number
digits_least : (least d : ℕ) → 1 ≤ least → least - 1 < 2 ^ d → (0 < least - 1 → 2 ^ (d - 1) ≤ least - 1) → (e : ℕ) → least ≤ 2 ^ e → 1 ≤ d → 2 ≤ least → 2 ^ d ≤ 2 ^ e
digits_least least d some holds half e enough digit two =
    ⊎_elim
    (λ (more : e < d).
    let down : e ≤ d - 1 = omega arith in
    let up : 2 ^ e ≤ 2 ^ (d - 1) = pow_mono down in
    let under = half (omega arith) in
    absurd (omega (arith, up, under)))
    (λ (less : d ≤ e). pow_mono less)
    (cases_lt e d)

-- of three elements or more
bucket_count_is : (n d : ℕ) → 3 ≤ n → d ≡ digit_count (10 * n / 7 - 1) → 10 * n / 7 - 1 < 2 ^ d → (0 < 10 * n / 7 - 1 → 2 ^ (d - 1) ≤ 10 * n / 7 - 1)
    → (2 ^ d ≡ bucket_count n) × IsBucketCount n (2 ^ d)
unfolding bucket_count
bucket_count_is zero d some is holds half = absurd (omega arith)
bucket_count_is (suc zero) d some is holds half = absurd (omega arith)
bucket_count_is (suc (suc zero)) d some is holds half = absurd (omega arith)
bucket_count_is (suc (suc (suc n))) d some is holds half =
    let four : 4 ≤ 10 * suc (suc (suc n)) / 7 = omega arith in
    let digit : 1 ≤ d = ⊎_elim
    (λ (none : d < 1). let zeroth : d ≡ 0 = omega arith in let one : 2 ^ d ≡ 1 = ap (λ x. 2 ^ x) zeroth in absurd (omega (arith, one, holds, four)))
    (λ (more : 1 ≤ d). more)
    (cases_lt d 1) in (
      ap (λ x. 2 ^ x) is,
      record {
        power = (d, refl);
        enough = omega (arith, holds, four);
        none_less = λ e enough. digits_least (10 * suc (suc (suc n)) / 7) d (omega (arith, four)) holds half e enough digit (omega (arith, four));
      },
    )

-- the digits of the number for fewer than 2 ^ 32 elements are 33 at most
pub bucket_count_small : (n d : ℕ) → n < 2 ^ 32 → (0 < 10 * n / 7 - 1 → 2 ^ (d - 1) ≤ 10 * n / 7 - 1) → 3 ≤ n → d ≤ 33
bucket_count_small n d small half some =
    ⊎_elim
    (λ (more : 33 < d).
    let up : 2 ^ 33 ≤ 2 ^ (d - 1) = pow_mono (let l : 33 ≤ d - 1 = omega arith in l) in
    absurd (omega (arith, up, half (omega arith))))
    (λ (less : d ≤ 33). less)
    (cases_lt 33 d)

-- a number is a power of two exactly where the next one is it
pub power_by_next : (n next k : ℕ) → next ≡ 2 ^ k → n ≤ next → next / 2 < max 1 n → MatchBool (nat_eq next n) (IsPowerOfTwo n) (IsPowerOfTwo n → ⊥)
power_by_next n next k is enough half =
    ⊎_elim
    (λ (same : (eqb next n ≡ true) × (next ≡ n)). subst (λ b. MatchBool b (IsPowerOfTwo n) (IsPowerOfTwo n → ⊥)) (sym same.0) (k, sym same.1 ∙ is))
    (λ (apart : (eqb next n ≡ false) × (next ≡ n → ⊥)). subst (λ b. MatchBool b (IsPowerOfTwo n) (IsPowerOfTwo n → ⊥)) (sym apart.0)
    (λ power. let least : next ≤ 2 ^ power.0 = none_less n next k power.0 is half (omega (arith, power.1)) in apart.1 (omega (arith, power.1))))
    (eqb_tells next n)

-- a number past the greatest power of two of 64 bits is none
pub no_power : (n : ℕ) → 2 ^ 63 < n → n < 2 ^ 64 → IsPowerOfTwo n → ⊥
no_power n above below power =
    ⊎_elim
    (λ (small : power.0 < 64). let up : power.0 ≤ 63 = omega arith in let least : 2 ^ power.0 ≤ 2 ^ 63 = pow_mono up in omega (arith, power.1))
    (λ (large : 64 ≤ power.0). let most : 2 ^ 64 ≤ 2 ^ power.0 = pow_mono large in omega (arith, power.1))
    (cases_lt power.0 64)

-- the number for none, one and two
pub count_0 : (n : ℕ) → n ≡ 0 → 1 ≡ bucket_count n
unfolding bucket_count
count_0 n is = subst (λ m. 1 ≡ bucket_count m) (sym is) refl

pub count_1 : (n : ℕ) → n ≡ 1 → 2 ≡ bucket_count n
unfolding bucket_count
count_1 n is = subst (λ m. 2 ≡ bucket_count m) (sym is) refl

pub count_2 : (n : ℕ) → n ≡ 2 → 4 ≡ bucket_count n
unfolding bucket_count
count_2 n is = subst (λ m. 4 ≡ bucket_count m) (sym is) refl

-- the power as the code shifts it
shifted : (d : ℕ) → d ≤ 64 → 1 * 2 ^ d % 2 ^ 128 ≡ 2 ^ d
shifted d small =
    let up : 2 ^ d ≤ 2 ^ 64 = pow_mono small in
    let one : 1 * 2 ^ d ≡ 2 ^ d = omega arith in
    ap (λ x. x % 2 ^ 128) one ∙ mod-eq_of_lt (let l : 2 ^ d < 2 ^ 128 = omega arith in l)

pub record IsWritten (n count : ℕ) : Type 0 where
  pub is : count ≡ bucket_count n
  pub meant : IsBucketCount n count
  pub few : n < 2 ^ 32 → count ≤ 2 ^ 33
  pub small : count ≤ 2 ^ 64

-- the number that the code computes for three elements or more
pub shifted_digits : (n m d : ℕ) → m ≡ n → 3 ≤ n → d ≡ digit_count (10 * m / 7 - 1) → 10 * m / 7 - 1 < 2 ^ d → (0 < 10 * m / 7 - 1 → 2 ^ (d - 1) ≤ 10 * m / 7 - 1) → d ≤ 64
    → IsWritten n (1 * 2 ^ d % 2 ^ 128)
shifted_digits n m d same some is holds half fits =
    let half_n : 0 < 10 * n / 7 - 1 → 2 ^ (d - 1) ≤ 10 * n / 7 - 1 = subst (λ x. 0 < 10 * x / 7 - 1 → 2 ^ (d - 1) ≤ 10 * x / 7 - 1) same half in
    let counts = bucket_count_is n d some (is ∙ ap (λ x. digit_count (10 * x / 7 - 1)) same) (subst (λ x. 10 * x / 7 - 1 < 2 ^ d) same holds) half_n in
    let whole = shifted d fits in
    let most : 2 ^ d ≤ 2 ^ 64 = pow_mono fits in
    record {
      is = whole ∙ counts.0;
      meant = subst (λ x. IsBucketCount n x) (sym whole) counts.1;
      few = λ few. let up : 2 ^ d ≤ 2 ^ 33 = pow_mono (bucket_count_small n d few half_n some) in omega (arith, whole, up);
      small = omega (arith, whole, most);
    }
