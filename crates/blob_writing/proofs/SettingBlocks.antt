-- Words of which one block of binary digits is another value: there are some.
use Rattle.std.proofs.Common.{◌≡◌, ℕ, ◌+◌, ◌-◌, ◌*◌, ◌/◌, ◌%◌, ◌^◌, ◌<◌, ◌≤◌, suc, zero, List, [], ◌∷◌, length, get_or, refl, sym, ap, ◌∙◌, subst, arith}
use Rattle.std.specs.Prelude.{replicate}
use Rattle.std.proofs.Math.Nat.{mul_comm}
use Rattle.std.proofs.lemmas.Nat.{pow_pos, pow-add, mod_below, shr_split, shr_below, mul-add-lt}
use Rattle.bit_array.specs.Element.{AreWords, SetsBlock, number_of, element_of}
use Rattle.bit_array.proofs.Elements.{power_of_words}

-- other words of which one block is this value
pub record Sets (old : List ℕ) (at width value : ℕ) : Type 0 where
  pub words : List ℕ
  pub are : AreWords words
  pub long : length words ≡ length old
  pub block : SetsBlock old words at width value

-- so many words, which stand for a number
abbrev pub words_from : ℕ → ℕ → List ℕ
words_from zero n = []
words_from (suc count) n = n % 2 ^ 64 ∷ words_from count (n / 2 ^ 64)

length-words_from : (count n : ℕ) → length (words_from count n) ≡ count
length-words_from zero n = refl
length-words_from (suc count) n = ap suc (length-words_from count (n / 2 ^ 64))

number_is : (count n : ℕ) → n < 2 ^ (64 * count) → number_of (words_from count n) ≡ n
unfolding number_of
number_is zero n below = omega arith
number_is (suc count) n below =
    let bits : 64 * suc count ≡ 64 * count + 64 = omega arith in
    let less : n / 2 ^ 64 < 2 ^ (64 * count) = shr_below n (64 * count) 64 (subst (λ k. n < 2 ^ k) bits below) in
    ap (λ k. k * 2 ^ 64 + n % 2 ^ 64) (number_is count (n / 2 ^ 64) less) ∙ shr_split n 64

word_below : (count n k d : ℕ) → k < length (words_from count n) → get_or (words_from count n) k d < 2 ^ 64
word_below zero n k d inside = absurd (omega arith)
word_below (suc count) n zero d inside = mod_below n (2 ^ 64) (pow_pos 64)
word_below (suc count) n (suc k) d inside = word_below count (n / 2 ^ 64) k d (omega arith)

-- the number of some words ends where their bits do
number_below : (words : List ℕ) → AreWords words → number_of words < 2 ^ (64 * length words)
unfolding number_of
number_below [] are = omega arith
number_below (word ∷ rest) are =
    subst (λ p. number_of rest * 2 ^ 64 + word < p) (mul_comm (2 ^ 64) (2 ^ (64 * length rest)) ∙ sym (power_of_words (length rest)))
    (mul-add-lt (number_of rest) (2 ^ 64) word (2 ^ (64 * length rest)) (number_below rest (λ k d inside. are (suc k) d (omega arith))) (are 0 0 (omega arith)))

-- a number in blocks, and with another value in one of them
whole_below : (high width value at low rest bits : ℕ) → bits ≡ at + (width + rest) → high < 2 ^ rest → value < 2 ^ width → low < 2 ^ at → (high * 2 ^ width + value) * 2 ^ at + low < 2 ^ bits
whole_below high width value at low rest bits is few small below =
    let one : high * 2 ^ width + value < 2 ^ width * 2 ^ rest = mul-add-lt high (2 ^ width) value (2 ^ rest) few small in
    let two : (high * 2 ^ width + value) * 2 ^ at + low < 2 ^ at * (2 ^ width * 2 ^ rest) = mul-add-lt (high * 2 ^ width + value) (2 ^ at) low (2 ^ width * 2 ^ rest) one below in
    let power : 2 ^ bits ≡ 2 ^ at * (2 ^ width * 2 ^ rest) = ap (λ k. 2 ^ k) is ∙ pow-add 2 at (width + rest) ∙ ap (λ k. 2 ^ at * k) (pow-add 2 width rest) in
    subst (λ k. (high * 2 ^ width + value) * 2 ^ at + low < k) (sym power) two

exchanged : (number new high p middle q low value : ℕ) → number ≡ (high * p + middle) * q + low → new ≡ (high * p + value) * q + low → new + middle * q ≡ number + value * q
exchanged number new high p middle q low value is new_is = omega arith

pub sets : (old : List ℕ) (at width value : ℕ) → AreWords old → at + width ≤ 64 * length old → value < 2 ^ width → Sets old at width value
unfolding element_of
sets old at width value are inside small =
    let n = number_of old in
    let bits = 64 * length old in
    let rest = bits - (at + width) in
    let high = n / 2 ^ at / 2 ^ width in
    let middle = n / 2 ^ at % 2 ^ width in
    let low = n % 2 ^ at in
    let is : n ≡ (high * 2 ^ width + middle) * 2 ^ at + low = sym (shr_split n at) ∙ ap (λ k. k * 2 ^ at + n % 2 ^ at) (sym (shr_split (n / 2 ^ at) width)) in
    let split : bits ≡ (rest + width) + at = omega arith in
    let few : high < 2 ^ rest = shr_below (n / 2 ^ at) rest width (shr_below n (rest + width) at (subst (λ k. n < 2 ^ k) split (number_below old are))) in
    let new = (high * 2 ^ width + value) * 2 ^ at + low in
    let below : new < 2 ^ bits = whole_below high width value at low rest bits (omega arith) few small (mod_below n (2 ^ at) (pow_pos at)) in
    record {
      words = words_from (length old) new;
      are = λ k d within. word_below (length old) new k d within;
      long = length-words_from (length old) new;
      block = exchanged n (number_of (words_from (length old) new)) high (2 ^ width) middle (2 ^ at) low value is (number_is (length old) new below);
    }

-- words of zeros
pub zero_words : (count : ℕ) → AreWords (replicate count 0)
zero_words zero k d inside = absurd (omega arith)
zero_words (suc count) zero d inside = omega arith
zero_words (suc count) (suc k) d inside = zero_words count k d (omega arith)

pub length-zeros : (count : ℕ) → length {A = ℕ} (replicate count 0) ≡ count
length-zeros zero = refl
length-zeros (suc count) = ap suc (length-zeros count)
