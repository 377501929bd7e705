-- Lemmas on runs of bits that are copied from words to words.
use Rattle.std.proofs.Common.{◌≡◌, ℕ, ◌+◌, ◌-◌, ◌*◌, ◌/◌, ◌%◌, ◌^◌, ◌<◌, ◌≤◌, List, length, get_or, set, sym, ap, ◌∙◌, subst, arith, Fits, w64}
use Rattle.bit_array.specs.Element.{number_of, element_of, SetsBlock}
use Rattle.std.specs.Int.Bits.{bit_or}
use Rattle.std.proofs.lemmas.Nat.{or_mod, shr-shr, mod_below, pow_pos, shr_below}
use Rattle.std.proofs.Math.Pow.{pow_mono}
use Rattle.bit_array.proofs.Elements.{element_of-lt, element_of_across_words, field_within}
use Rattle.bit_array.proofs.Blocks.{both_blocks, two_fields, element_in_word, block_in_word, no_block}

-- an element in two pieces
element_in_two : (words : List ℕ) (at a b : ℕ) → element_of words at (a + b) ≡ element_of words (at + a) b * 2 ^ a + element_of words at a
unfolding element_of
element_in_two words at a b = two_fields (number_of words) at a b

-- a piece more is copied
pub grown : (from old middle new : List ℕ) (at place done more : ℕ)
    → SetsBlock old middle place done (element_of from at done) → SetsBlock middle new (place + done) more (element_of from (at + done) more)
    → SetsBlock old new place (done + more) (element_of from at (done + more))
grown from old middle new at place done more first second =
    subst (λ value. SetsBlock old new place (done + more) value) (sym (element_in_two from at done more))
    (both_blocks old middle new place done more (element_of from at done) (element_of from (at + done) more) (element_of-lt from at done) first second)

-- a word is a block of 64 digits
pub word_put : (words : List ℕ) (place word : ℕ) → ((k : ℕ) → Fits w64 (get_or words k 0)) → place < length words
    → SetsBlock words (set words place word) (64 * place) 64 word
word_put words place word fits inside =
    let here : 64 * place + 0 ≡ 64 * place = omega arith in
    let whole : get_or words place 0 / 2 ^ 0 % 2 ^ 64 ≡ get_or words place 0 = let f = (fits place).fits in omega arith in
    let is : get_or words place 0 ≡ element_of words (64 * place + 0) 64 = sym (element_in_word words place 0 64 fits inside (omega arith) (omega arith) ∙ whole) in
    subst (λ k. SetsBlock words (set words place word) k 64 word) here
    (block_in_word words place 0 64 word word (get_or words place 0) inside is (omega arith))

-- nothing is copied
pub none_copied : (from words : List ℕ) (at place : ℕ) → SetsBlock words words place 0 (element_of from at 0)
none_copied from words at place = no_block words place (element_of from at 0) (element_of-lt from at 0)

or_whole : (a b : ℕ) → a < 2 ^ 64 → b < 2 ^ 64 → bit_or a b % 2 ^ 64 ≡ bit_or a b
or_whole a b small below =
    let x : a % 2 ^ 64 ≡ a = omega arith in
    let y : b % 2 ^ 64 ≡ b = omega arith in
    or_mod a b 64 ∙ ap (λ k. bit_or k (b % 2 ^ 64)) x ∙ ap (λ k. bit_or a k) y

-- an element of 64 digits that lies in two words
pub two_words : (words : List ℕ) (place shift at : ℕ) → ((k : ℕ) → Fits w64 (get_or words k 0)) → place + 1 < length words → shift < 64 → at ≡ 64 * place + shift
    → bit_or (get_or words place 0 / 2 ^ shift) (get_or words (place + 1) 0 * 2 ^ (64 - shift) % 2 ^ 64) ≡ element_of words at 64
two_words words place shift at fits inside below is =
    let row : at / 64 ≡ place = omega arith in
    let column : at % 64 ≡ shift = omega arith in
    let there : at / 64 + 1 < length words = omega arith in
    let low = get_or words place 0 in
    let high = get_or words (place + 1) 0 * 2 ^ (64 - shift) % 2 ^ 64 in
    let f = (fits place).fits in
    let split : 64 ≡ (64 - shift) + shift = omega arith in
    let short : low / 2 ^ shift < 2 ^ (64 - shift) = shr_below low (64 - shift) shift (subst (λ k. low < 2 ^ k) split f) in
    let less : 64 - shift ≤ 64 = omega arith in
    let most : 2 ^ (64 - shift) ≤ 2 ^ 64 = pow_mono less in
    let small : low / 2 ^ shift < 2 ^ 64 = omega arith in
    let top : high < 2 ^ 64 = mod_below (get_or words (place + 1) 0 * 2 ^ (64 - shift)) (2 ^ 64) (pow_pos 64) in
    sym (element_of_across_words words at 64 fits there (omega arith)
    ∙ ap (λ r. bit_or (get_or words r 0 / 2 ^ (at % 64)) (get_or words (r + 1) 0 * 2 ^ (64 - at % 64) % 2 ^ 64) % 2 ^ 64) row
    ∙ ap (λ k. bit_or (low / 2 ^ k) (get_or words (place + 1) 0 * 2 ^ (64 - k) % 2 ^ 64) % 2 ^ 64) column
    ∙ or_whole (low / 2 ^ shift) high small top)

-- a word more is copied
pub word_grown : (from old middle new : List ℕ) (at first done word : ℕ) → SetsBlock old middle (64 * first) (64 * done) (element_of from at (64 * done))
    → SetsBlock middle new (64 * (first + done)) 64 word → word ≡ element_of from (at + 64 * done) 64
    → SetsBlock old new (64 * first) (64 * (done + 1)) (element_of from at (64 * (done + 1)))
word_grown from old middle new at first done word so_far put is =
    let there : 64 * (first + done) ≡ 64 * first + 64 * done = omega arith in
    let more : 64 * done + 64 ≡ 64 * (done + 1) = omega arith in
    let next : SetsBlock middle new (64 * first + 64 * done) 64 (element_of from (at + 64 * done) 64) =
    subst (λ p. SetsBlock middle new p 64 (element_of from (at + 64 * done) 64)) there (subst (λ v. SetsBlock middle new (64 * (first + done)) 64 v) is put) in
    subst (λ n. SetsBlock old new (64 * first) n (element_of from at n)) more (grown from old middle new at (64 * first) (64 * done) 64 so_far next)

-- an element within a longer one
pub element_within : (words : List ℕ) (at len i v : ℕ) → i + v ≤ len → element_of words (at + i) v ≡ element_of words at len / 2 ^ i % 2 ^ v
unfolding element_of
element_within words at len i v inside =
    ap (λ n. n % 2 ^ v) (sym (shr-shr (number_of words) at i)) ∙ field_within (number_of words / 2 ^ at) len i v inside

-- where two long elements are the same, so is each within them
pub same_within : (from to : List ℕ) (at place len : ℕ) → element_of to place len ≡ element_of from at len
    → (i v : ℕ) → i + v ≤ len → element_of to (place + i) v ≡ element_of from (at + i) v
same_within from to at place len same i v inside =
    element_within to place len i v inside ∙ ap (λ n. n / 2 ^ i % 2 ^ v) same ∙ sym (element_within from at len i v inside)
