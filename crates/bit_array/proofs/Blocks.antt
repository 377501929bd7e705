-- Lemmas on the change of one block of a number's binary digits.
use Rattle.std.proofs.Common.{◌≡◌, ℕ, ◌+◌, ◌-◌, ◌*◌, ◌/◌, ◌%◌, ◌^◌, ◌<◌, ◌≤◌, ◌⊎◌, suc, zero, List, [], ◌∷◌, length, get_or, set, refl, sym, ap, ◌∙◌, subst, inl, inr, arith, Fits, w64}
use Rattle.std.proofs.lemmas.Nat.{pow_pos, pow-add, mod_below, shr-shr, shr_high, mod_low, shr_split, shr_below, mod-pow-add, mul-add-lt}
use Rattle.std.proofs.Math.Nat.{mul_comm, zero-mod}
use Rattle.bit_array.specs.Element.{number_of, element_of, SetsBlock}
use Rattle.bit_array.proofs.Elements.{field_within, power_of_words, element_of_one_word, element_of_no_width}

-- a number by the digits above a block, those of the block and those below it
record InBlocks (n at width high middle low : ℕ) : Type 0 where
  is : n ≡ (high * 2 ^ width + middle) * 2 ^ at + low
  small : middle < 2 ^ width
  below : low < 2 ^ at

blocks_of : (n at width : ℕ) → InBlocks n at width (n / 2 ^ at / 2 ^ width) (n / 2 ^ at % 2 ^ width) (n % 2 ^ at)
blocks_of n at width = record {
  is = sym (shr_split n at) ∙ ap (λ k. k * 2 ^ at + n % 2 ^ at) (sym (shr_split (n / 2 ^ at) width));
  small = mod_below (n / 2 ^ at) (2 ^ width) (pow_pos width);
  below = mod_below n (2 ^ at) (pow_pos at);
}

-- from a block's first digit on
from_block : (n at width high middle low : ℕ) → InBlocks n at width high middle low → n / 2 ^ at ≡ high * 2 ^ width + middle
from_block n at width high middle low b = ap (λ k. k / 2 ^ at) b.is ∙ shr_high (high * 2 ^ width + middle) at low b.below

block : (n at width high middle low : ℕ) → InBlocks n at width high middle low → n / 2 ^ at % 2 ^ width ≡ middle
block n at width high middle low b = ap (λ k. k % 2 ^ width) (from_block n at width high middle low b) ∙ mod_low high width middle b.small

below_block : (n at width high middle low i v : ℕ) → InBlocks n at width high middle low → i + v ≤ at → n / 2 ^ i % 2 ^ v ≡ low / 2 ^ i % 2 ^ v
below_block n at width high middle low i v b h =
    field_within n at i v h
    ∙ ap (λ k. k / 2 ^ i % 2 ^ v) (ap (λ k. k % 2 ^ at) b.is ∙ mod_low (high * 2 ^ width + middle) at low b.below)

above_block : (n at width high middle low i : ℕ) → InBlocks n at width high middle low → at + width ≤ i → n / 2 ^ i ≡ high / 2 ^ (i - (at + width))
above_block n at width high middle low i b h =
    let split : i ≡ at + (width + (i - (at + width))) = omega arith in
    ap (λ k. n / 2 ^ k) split
    ∙ sym (shr-shr n at (width + (i - (at + width))))
    ∙ ap (λ k. k / 2 ^ (width + (i - (at + width)))) (from_block n at width high middle low b)
    ∙ sym (shr-shr (high * 2 ^ width + middle) width (i - (at + width)))
    ∙ ap (λ k. k / 2 ^ (i - (at + width))) (shr_high high width middle b.small)

-- the number with another value in the block
exchanged : (n m at width high middle low value : ℕ) → InBlocks n at width high middle low → value < 2 ^ width → m + middle * 2 ^ at ≡ n + value * 2 ^ at
    → InBlocks m at width high value low
exchanged n m at width high middle low value b small change =
    let is = b.is in
    record {
      is = let e : m ≡ (high * 2 ^ width + value) * 2 ^ at + low = grind (arith, is, change) in e;
      small = small;
      below = b.below;
    }

-- ---- the same of words

pub block_is : (old new : List ℕ) (at width value : ℕ) → value < 2 ^ width → SetsBlock old new at width value → element_of new at width ≡ value
unfolding element_of
block_is old new at width value small change =
    let n = number_of old in
    block (number_of new) at width (n / 2 ^ at / 2 ^ width) value (n % 2 ^ at)
    (exchanged n (number_of new) at width (n / 2 ^ at / 2 ^ width) (n / 2 ^ at % 2 ^ width) (n % 2 ^ at) value (blocks_of n at width) small change)

pub block_below : (old new : List ℕ) (at width value i v : ℕ) → value < 2 ^ width → SetsBlock old new at width value → i + v ≤ at → element_of new i v ≡ element_of old i v
unfolding element_of
block_below old new at width value i v small change h =
    let n = number_of old in
    let b = blocks_of n at width in
    below_block (number_of new) at width (n / 2 ^ at / 2 ^ width) value (n % 2 ^ at) i v
    (exchanged n (number_of new) at width (n / 2 ^ at / 2 ^ width) (n / 2 ^ at % 2 ^ width) (n % 2 ^ at) value b small change) h
    ∙ sym (below_block n at width (n / 2 ^ at / 2 ^ width) (n / 2 ^ at % 2 ^ width) (n % 2 ^ at) i v b h)

pub block_above : (old new : List ℕ) (at width value i v : ℕ) → value < 2 ^ width → SetsBlock old new at width value → at + width ≤ i → element_of new i v ≡ element_of old i v
unfolding element_of
block_above old new at width value i v small change h =
    let n = number_of old in
    let b = blocks_of n at width in
    ap (λ k. k % 2 ^ v)
    (above_block (number_of new) at width (n / 2 ^ at / 2 ^ width) value (n % 2 ^ at) i
    (exchanged n (number_of new) at width (n / 2 ^ at / 2 ^ width) (n / 2 ^ at % 2 ^ width) (n % 2 ^ at) value b small change) h
    ∙ sym (above_block n at width (n / 2 ^ at / 2 ^ width) (n / 2 ^ at % 2 ^ width) (n % 2 ^ at) i b h))

pub block_apart : (old new : List ℕ) (at width value : ℕ) → value < 2 ^ width → SetsBlock old new at width value
    → (i v : ℕ) → (i + v ≤ at) ⊎ (at + width ≤ i) → element_of new i v ≡ element_of old i v
block_apart old new at width value small change i v (inl below) = block_below old new at width value i v small change below
block_apart old new at width value small change i v (inr above) = block_above old new at width value i v small change above

-- ---- blocks side by side

-- the digits of two blocks side by side
pub two_fields : (n at a b : ℕ) → n / 2 ^ at % 2 ^ (a + b) ≡ n / 2 ^ (at + a) % 2 ^ b * 2 ^ a + n / 2 ^ at % 2 ^ a
two_fields n at a b =
    let turned : a + b ≡ b + a = omega arith in
    ap (λ k. n / 2 ^ at % 2 ^ k) turned
    ∙ mod-pow-add (n / 2 ^ at) b a
    ∙ ap (λ k. k % 2 ^ b * 2 ^ a + n / 2 ^ at % 2 ^ a) (shr-shr n at a)

-- the numbers of the two blocks, put together
together : (old middle new at a low high low_was high_was : ℕ) → middle + low_was * at ≡ old + low * at → new + high_was * (at * a) ≡ middle + high * (at * a)
    → new + (high_was * a + low_was) * at ≡ old + (high * a + low) * at
together old middle new at a low high low_was high_was first second = omega arith

-- one block after the other is the block of both
pub both_blocks : (old middle new : List ℕ) (at a b low high : ℕ) → low < 2 ^ a
    → SetsBlock old middle at a low → SetsBlock middle new (at + a) b high → SetsBlock old new at (a + b) (high * 2 ^ a + low)
unfolding element_of
both_blocks old middle new at a b low high small first second =
    let same : element_of middle (at + a) b ≡ element_of old (at + a) b = block_above old middle at a low (at + a) b small first (omega arith) in
    let both = λ (e p : ℕ) (is : p ≡ 2 ^ at * 2 ^ a) (change : number_of new + e * p ≡ number_of middle + high * p).
    together (number_of old) (number_of middle) (number_of new) (2 ^ at) (2 ^ a) low high (element_of old at a) e first
    (subst (λ q. number_of new + e * q ≡ number_of middle + high * q) is change) in
    subst (λ e. number_of new + e * 2 ^ at ≡ number_of old + (high * 2 ^ a + low) * 2 ^ at) (sym (two_fields (number_of old) at a b))
    (both (element_of old (at + a) b) (2 ^ (at + a)) (pow-add 2 at a)
    (subst (λ e. number_of new + e * 2 ^ (at + a) ≡ number_of middle + high * 2 ^ (at + a)) same second))

-- an empty block
pub no_block : (words : List ℕ) (at value : ℕ) → value < 2 ^ 0 → SetsBlock words words at 0 value
no_block words at value small =
    let none : value ≡ 0 = omega arith in
    rw (none, element_of_no_width) refl

-- ---- a block in one word

-- a word more in front
one_more : (new old was word first p power : ℕ) → power ≡ p * 2 ^ 64 → new + was * p ≡ old + word * p
    → new * 2 ^ 64 + first + was * power ≡ old * 2 ^ 64 + first + word * power
one_more new old was word first p power is h = rw is (omega arith)

-- the number of words with one exchanged
number_of-set : (words : List ℕ) (place word : ℕ) → place < length words
    → number_of (set words place word) + get_or words place 0 * 2 ^ (64 * place) ≡ number_of words + word * 2 ^ (64 * place)
unfolding number_of
number_of-set (first ∷ rest) zero word inside = omega arith
number_of-set (first ∷ rest) (suc place) word inside =
    one_more (number_of (set rest place word)) (number_of rest) (get_or rest place 0) word first (2 ^ (64 * place)) (2 ^ (64 * suc place)) (power_of_words place)
    (number_of-set rest place word (omega arith))
number_of-set [] place word inside = absurd (omega arith)

-- a block of a word, in the number of all words
in_number : (new old was word value shift p power middle : ℕ) → power ≡ p * shift → new + was * p ≡ old + word * p → word + middle * shift ≡ was + value * shift
    → new + middle * power ≡ old + value * power
in_number new old was word value shift p power middle is h change = let scaled = ap (λ k. k * p) change in rw is (omega arith)

pub element_in_word : (words : List ℕ) (place shift width : ℕ) → ((k : ℕ) → Fits w64 (get_or words k 0)) → place < length words → 1 ≤ width → shift + width ≤ 64
    → element_of words (64 * place + shift) width ≡ get_or words place 0 / 2 ^ shift % 2 ^ width
element_in_word words place shift width fits inside some within =
    let at = 64 * place + shift in
    let row : at / 64 ≡ place = omega arith in
    let column : at % 64 ≡ shift = omega arith in
    subst (λ r. element_of words at width ≡ get_or words r 0 / 2 ^ shift % 2 ^ width) row
    (subst (λ k. element_of words at width ≡ get_or words (at / 64) 0 / 2 ^ k % 2 ^ width) column
    (element_of_one_word words at width fits (omega arith) (omega arith)))

pub block_in_word : (words : List ℕ) (place shift width value word old : ℕ) → place < length words → old ≡ element_of words (64 * place + shift) width
    → word + old * 2 ^ shift ≡ get_or words place 0 + value * 2 ^ shift
    → SetsBlock words (set words place word) (64 * place + shift) width value
block_in_word words place shift width value word old inside is change =
    subst (λ e. number_of (set words place word) + e * 2 ^ (64 * place + shift) ≡ number_of words + value * 2 ^ (64 * place + shift)) is
    (in_number (number_of (set words place word)) (number_of words) (get_or words place 0) word value (2 ^ shift) (2 ^ (64 * place)) (2 ^ (64 * place + shift))
    old (pow-add 2 (64 * place) shift) (number_of-set words place word inside) change)

-- the parts of a word apart
spread : (high p middle s low : ℕ) → (high * p + middle) * s + low ≡ high * (p * s) + (middle * s + low)
spread high p middle s low = omega arith

-- what the code makes of a word, which takes the old digits off and puts the new ones on
pub record IsChanged (word off on old value : ℕ) : Type 0 where
  pub part : off ≤ word
  pub fits : word - off + on < 2 ^ 64
  pub sum : word - off + on + old ≡ word + value

pub word_changed : (word shift width value old : ℕ) → word < 2 ^ 64 → shift + width ≤ 64 → value < 2 ^ width → old ≡ word / 2 ^ shift % 2 ^ width
    → IsChanged word (old * 2 ^ shift % 2 ^ 64) (value * 2 ^ shift % 2 ^ 64) (old * 2 ^ shift) (value * 2 ^ shift)
word_changed word shift width value old fits within small is_old =
    let high = word / 2 ^ shift / 2 ^ width in
    let low = word % 2 ^ shift in
    let b = blocks_of word shift width in
    let below = b.below in
    let is : word ≡ high * (2 ^ width * 2 ^ shift) + (word / 2 ^ shift % 2 ^ width * 2 ^ shift + low) = b.is ∙ spread high (2 ^ width) (word / 2 ^ shift % 2 ^ width) (2 ^ shift) low in
    let power : 2 ^ (width + shift) ≡ 2 ^ width * 2 ^ shift = pow-add 2 width shift in
    let rest : 64 ≡ (64 - (width + shift)) + (width + shift) = omega arith in
    let whole : 2 ^ 64 ≡ 2 ^ (64 - (width + shift)) * 2 ^ (width + shift) = ap (λ k. 2 ^ k) rest ∙ pow-add 2 (64 - (width + shift)) (width + shift) in
    let split : 64 ≡ (64 - (width + shift)) + width + shift = omega arith in
    let few : high < 2 ^ (64 - (width + shift)) =
    shr_below (word / 2 ^ shift) (64 - (width + shift)) width
    (shr_below word ((64 - (width + shift)) + width) shift (subst (λ k. word < 2 ^ k) split fits)) in
    let piece : value * 2 ^ shift + low < 2 ^ (width + shift) =
    subst (λ k. value * 2 ^ shift + low < k) (mul_comm (2 ^ shift) (2 ^ width) ∙ sym power) (mul-add-lt value (2 ^ shift) low (2 ^ width) small below) in
    let new : high * 2 ^ (width + shift) + (value * 2 ^ shift + low) < 2 ^ 64 =
    subst (λ k. high * 2 ^ (width + shift) + (value * 2 ^ shift + low) < k) (mul_comm (2 ^ (width + shift)) (2 ^ (64 - (width + shift))) ∙ sym whole)
    (mul-add-lt high (2 ^ (width + shift)) (value * 2 ^ shift + low) (2 ^ (64 - (width + shift))) few piece) in
    let parts : word ≡ high * 2 ^ (width + shift) + (old * 2 ^ shift + low) =
    is ∙ ap (λ k. high * k + (word / 2 ^ shift % 2 ^ width * 2 ^ shift + low)) (sym power) ∙ ap (λ k. high * 2 ^ (width + shift) + (k * 2 ^ shift + low)) (sym is_old) in
    let old_whole : old * 2 ^ shift % 2 ^ 64 ≡ old * 2 ^ shift = omega arith in
    let value_whole : value * 2 ^ shift % 2 ^ 64 ≡ value * 2 ^ shift = omega arith in
    record {
      part = omega arith;
      fits = omega arith;
      sum = omega arith;
    }

-- a number that ends where a block begins has nothing in it
nothing_above : (n at width : ℕ) → n < 2 ^ at → n / 2 ^ at % 2 ^ width ≡ 0
nothing_above n at width below =
    let is : n ≡ 0 * 2 ^ at + n = omega arith in
    ap (λ k. k % 2 ^ width) (ap (λ m. m / 2 ^ at) is ∙ shr_high 0 at n below) ∙ zero-mod (2 ^ width)

without_block : (old new value e p : ℕ) → e ≡ 0 → new + e * p ≡ old + value * p → new ≡ value * p + old
without_block old new value e p none change = let c = subst (λ k. new + k * p ≡ old + value * p) none change in omega arith

-- then the number ends behind the block once it is written
pub block_bits : (old new : List ℕ) (at width value : ℕ) → value < 2 ^ width → SetsBlock old new at width value → number_of old < 2 ^ at → number_of new < 2 ^ (at + width)
unfolding element_of
block_bits old new at width value small change below =
    let is : number_of new ≡ value * 2 ^ at + number_of old =
    without_block (number_of old) (number_of new) value (element_of old at width) (2 ^ at) (nothing_above (number_of old) at width below) change in
    rw (is, pow-add) (mul-add-lt value (2 ^ at) (number_of old) (2 ^ width) small below)
