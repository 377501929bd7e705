-- Lemmas on the elements of a word array.
use Rattle.std.proofs.Common.{◌≡◌, ℕ, ◌+◌, ◌-◌, ◌*◌, ◌/◌, ◌%◌, ◌^◌, ◌<◌, ◌≤◌, suc, zero, List, [], ◌∷◌, ◌++◌, length, get_or, take, drop, refl, sym, ap, ◌∙◌, subst, arith, add-one, Fits, w64}
use Rattle.std.specs.Int.Bits.{bit_and, bit_or}
use Rattle.std.proofs.lemmas.Nat.{pow_pos, pow-add, mod_below, shr-shr, field_of, shr_high, mod_low, or_mod, or_comm, or_shifted, and_mask, shr_below, shr_split, mul-add-lt}
use Rattle.std.proofs.lemmas.Nat.Bits.{ones_shr}
use Rattle.std.proofs.Math.Nat.{mul_comm, zero-div, div-one}
use Rattle.std.proofs.Math.Pow.{mod-mod-pow}
use Rattle.std.proofs.Math.Seq.{drop-cons}
use Rattle.std.proofs.lemmas.List.{take_all, length-drop}
use Rattle.bit_array.specs.Element.{number_of, element_of}

-- an element is below 2 to the power of its width
pub element_of-lt : (words : List ℕ) (at width : ℕ) → element_of words at width < 2 ^ width
unfolding element_of
element_of-lt words at width = mod_below (number_of words / 2 ^ at) (2 ^ width) (pow_pos width)

-- an element of no width is 0
pub element_of_no_width : (words : List ℕ) (at : ℕ) → element_of words at 0 ≡ 0
element_of_no_width words at = omega (arith, element_of-lt words at 0)

-- the binary digits from s up to s + w are those of the number's lowest m digits
pub field_within : (n m s w : ℕ) → s + w ≤ m → n / 2 ^ s % 2 ^ w ≡ n % 2 ^ m / 2 ^ s % 2 ^ w
field_within n m s w h =
    let e : m ≡ (m - (w + s)) + (w + s) = omega arith in
    let low : n % 2 ^ m % 2 ^ (w + s) ≡ n % 2 ^ (w + s) =
    subst (λ k. n % 2 ^ k % 2 ^ (w + s) ≡ n % 2 ^ (w + s)) (sym e) (mod-mod-pow n (m - (w + s)) (w + s)) in
    sym (field_of n w s) ∙ ap (λ x. x / 2 ^ s) (sym low) ∙ field_of (n % 2 ^ m) w s

-- the number without its first words is that of the words behind them
pub number_of-drop : (words : List ℕ) (count : ℕ) → ((k : ℕ) → Fits w64 (get_or words k 0)) → number_of words / 2 ^ (64 * count) ≡ number_of (drop count words)
unfolding number_of
number_of-drop words zero fits = div-one (number_of words)
number_of-drop [] (suc count) fits = zero-div (2 ^ (64 * suc count))
number_of-drop (word ∷ rest) (suc count) fits =
    let whole = number_of rest * 2 ^ 64 + word in
    let e : 64 * suc count ≡ 64 + 64 * count = omega arith in
    ap (λ k. whole / 2 ^ k) e
    ∙ sym (shr-shr whole 64 (64 * count))
    ∙ ap (λ n. n / 2 ^ (64 * count)) (shr_high (number_of rest) 64 word (fits 0).fits)
    ∙ number_of-drop rest count (λ k. fits (suc k))

-- an element is that of the words from its first one on
element_of-drop : (words : List ℕ) (at width : ℕ) → ((k : ℕ) → Fits w64 (get_or words k 0)) → element_of words at width ≡ element_of (drop (at / 64) words) (at % 64) width
unfolding element_of
element_of-drop words at width fits =
    let e : at ≡ 64 * (at / 64) + at % 64 = omega arith in
    ap (λ k. number_of words / 2 ^ k % 2 ^ width) e
    ∙ ap (λ n. n % 2 ^ width) (sym (shr-shr (number_of words) (64 * (at / 64)) (at % 64)))
    ∙ ap (λ n. n / 2 ^ (at % 64) % 2 ^ width) (number_of-drop words (at / 64) fits)

-- the same, as the code cuts the words before it off
pub element_from : (words : List ℕ) (at place width : ℕ) → ((k : ℕ) → Fits w64 (get_or words k 0)) → place ≡ at
    → element_of (take (length words - place / 64) (drop (place / 64) words)) (place % 64) width ≡ element_of words at width
element_from words at place width fits is =
    let whole : take (length words - place / 64) (drop (place / 64) words) ≡ drop (place / 64) words =
    take_all (length words - place / 64) (drop (place / 64) words) (omega (arith, length-drop (place / 64) words)) in
    ap (λ ws. element_of ws (place % 64) width) whole
    ∙ sym (element_of-drop words place width fits)
    ∙ ap (λ k. element_of words k width) is

-- an element within the first word
element_of_first : (word : ℕ) (rest : List ℕ) (at width : ℕ) → word < 2 ^ 64 → at + width ≤ 64 → element_of (word ∷ rest) at width ≡ word / 2 ^ at % 2 ^ width
unfolding element_of number_of
element_of_first word rest at width fits within =
    field_within (number_of rest * 2 ^ 64 + word) 64 at width within
    ∙ ap (λ n. n / 2 ^ at % 2 ^ width) (mod_low (number_of rest) 64 word fits)

-- an element that lies in one word is a run of that word's binary digits
pub element_of_one_word : (words : List ℕ) (at width : ℕ) → ((k : ℕ) → Fits w64 (get_or words k 0)) → at / 64 < length words → at % 64 + width ≤ 64
    → element_of words at width ≡ get_or words (at / 64) 0 / 2 ^ (at % 64) % 2 ^ width
element_of_one_word words at width fits inside within =
    element_of-drop words at width fits
    ∙ ap (λ ws. element_of ws (at % 64) width) (drop-cons words (at / 64) 0 inside)
    ∙ element_of_first (get_or words (at / 64) 0) (drop (suc (at / 64)) words) (at % 64) width (fits (at / 64)).fits within

-- the binary digits from s on of two words are those of the first one from s on, below all those of the second one
two_words_shr : (low high s : ℕ) → s ≤ 64 → (high * 2 ^ 64 + low) / 2 ^ s ≡ high * 2 ^ (64 - s) + low / 2 ^ s
two_words_shr low high s h =
    let split : 64 ≡ (64 - s) + s = omega arith in
    let power : 2 ^ 64 ≡ 2 ^ (64 - s) * 2 ^ s = ap (λ k. 2 ^ k) split ∙ pow-add 2 (64 - s) s in
    let digits : low ≡ low / 2 ^ s * 2 ^ s + low % 2 ^ s = sym (shr_split low s) in
    let whole : high * 2 ^ 64 + low ≡ (high * 2 ^ (64 - s) + low / 2 ^ s) * 2 ^ s + low % 2 ^ s =
    grind (arith, power, digits) in
    ap (λ n. n / 2 ^ s) whole
    ∙ shr_high (high * 2 ^ (64 - s) + low / 2 ^ s) s (low % 2 ^ s) (mod_below low (2 ^ s) (pow_pos s))

-- the lowest w bits of a word put beside a second one that is shifted above it
joined : (low high s w : ℕ) → low < 2 ^ 64 → s ≤ 64 → w ≤ 64
    → bit_or (low / 2 ^ s) (high * 2 ^ (64 - s) % 2 ^ 64) % 2 ^ w ≡ (high * 2 ^ 64 + low) / 2 ^ s % 2 ^ w
joined low high s w fits sh wh =
    let a = low / 2 ^ s in
    let b = high * 2 ^ (64 - s) in
    let split : 64 ≡ (64 - w) + w = omega arith in
    let cut : b % 2 ^ 64 % 2 ^ w ≡ b % 2 ^ w =
    subst (λ k. b % 2 ^ k % 2 ^ w ≡ b % 2 ^ w) (sym split) (mod-mod-pow b (64 - w) w) in
    let whole : 64 ≡ (64 - s) + s = omega arith in
    let short : a < 2 ^ (64 - s) = shr_below low (64 - s) s (subst (λ k. low < 2 ^ k) whole fits) in
    or_mod a (b % 2 ^ 64) w
    ∙ ap (λ n. bit_or (a % 2 ^ w) n) cut
    ∙ sym (or_mod a b w)
    ∙ ap (λ n. n % 2 ^ w) (or_comm a b ∙ or_shifted high (64 - s) a short ∙ sym (two_words_shr low high s sh))

-- an element that reaches into a second word
element_of_two_words : (low high : ℕ) (rest : List ℕ) (at width : ℕ) → low < 2 ^ 64 → high < 2 ^ 64 → at < 64 → width ≤ 64
    → element_of (low ∷ high ∷ rest) at width ≡ (high * 2 ^ 64 + low) / 2 ^ at % 2 ^ width
unfolding element_of number_of
element_of_two_words low high rest at width fits_low fits_high sh wh =
    let two = high * 2 ^ 64 + low in
    let power : 2 ^ 128 ≡ 2 ^ 64 * 2 ^ 64 = refl in
    let whole : (number_of rest * 2 ^ 64 + high) * 2 ^ 64 + low ≡ number_of rest * 2 ^ 128 + two = omega arith in
    ap (λ n. n / 2 ^ at % 2 ^ width) whole
    ∙ field_within (number_of rest * 2 ^ 128 + two) 128 at width (omega arith)
    ∙ ap (λ n. n / 2 ^ at % 2 ^ width) (mod_low (number_of rest) 128 two (omega arith))

-- an element that lies in two words is what the code reads of them
pub element_of_across_words : (words : List ℕ) (at width : ℕ) → ((k : ℕ) → Fits w64 (get_or words k 0)) → at / 64 + 1 < length words → width ≤ 64
    → element_of words at width ≡ bit_or (get_or words (at / 64) 0 / 2 ^ (at % 64)) (get_or words (at / 64 + 1) 0 * 2 ^ (64 - at % 64) % 2 ^ 64) % 2 ^ width
element_of_across_words words at width fits inside wh =
    let first : at / 64 < length words = omega arith in
    let second : suc (at / 64) < length words = omega arith in
    let low = get_or words (at / 64) 0 in
    let high = get_or words (suc (at / 64)) 0 in
    element_of-drop words at width fits
    ∙ ap (λ ws. element_of ws (at % 64) width) (drop-cons words (at / 64) 0 first ∙ ap (λ ws. low ∷ ws) (drop-cons words (suc (at / 64)) 0 second))
    ∙ element_of_two_words low high (drop (suc (suc (at / 64))) words) (at % 64) width (fits (at / 64)).fits (fits (suc (at / 64))).fits (omega arith) wh
    ∙ sym (joined low high (at % 64) width (fits (at / 64)).fits (omega arith) wh)
    ∙ ap (λ k. bit_or (low / 2 ^ (at % 64)) (get_or words k 0 * 2 ^ (64 - at % 64) % 2 ^ 64) % 2 ^ width) (sym (add-one (at / 64)))

-- 2 to the power of the bits of one word more
pub power_of_words : (count : ℕ) → 2 ^ (64 * suc count) ≡ 2 ^ (64 * count) * 2 ^ 64
power_of_words count =
    let more : 64 * suc count ≡ 64 * count + 64 = omega arith in
    ap (λ k. 2 ^ k) more ∙ pow-add 2 (64 * count) 64

-- a word below a number in two parts
group : (m p n word : ℕ) → (m * p + n) * 2 ^ 64 + word ≡ m * (p * 2 ^ 64) + (n * 2 ^ 64 + word)
group m p n word = omega arith

-- the number of words with more behind them
pub number_of-append : (words more : List ℕ) → number_of (words ++ more) ≡ number_of more * 2 ^ (64 * length words) + number_of words
unfolding number_of
number_of-append [] more = omega arith
number_of-append (word ∷ rest) more =
    let power : 2 ^ (64 * suc (length rest)) ≡ 2 ^ (64 * length rest) * 2 ^ 64 = power_of_words (length rest) in
    ap (λ n. n * 2 ^ 64 + word) (number_of-append rest more)
    ∙ group (number_of more) (2 ^ (64 * length rest)) (number_of rest) word
    ∙ ap (λ p. number_of more * p + (number_of rest * 2 ^ 64 + word)) (sym power)

-- the number of some words is below 2 to the power of their bits
number_of-lt : (words : List ℕ) → ((k : ℕ) → Fits w64 (get_or words k 0)) → number_of words < 2 ^ (64 * length words)
unfolding number_of
number_of-lt [] fits = omega arith
number_of-lt (word ∷ rest) fits =
    subst
    (λ p. number_of rest * 2 ^ 64 + word < p)
    (mul_comm (2 ^ 64) (2 ^ (64 * length rest)) ∙ sym (power_of_words (length rest)))
    (mul-add-lt (number_of rest) (2 ^ 64) word (2 ^ (64 * length rest)) (number_of-lt rest (λ k. fits (suc k))) (fits 0).fits)

-- the lowest w bits of a word, by the mask that has the w lowest bits of 64
pub low_mask : (word w : ℕ) → w ≤ 64 → bit_and word ((2 ^ 64 - 1) / 2 ^ (64 - w)) ≡ word % 2 ^ w
low_mask word w h =
    let e : 64 - (64 - w) ≡ w = omega arith in
    ap (λ mask. bit_and word mask) (ones_shr 64 (64 - w) (omega arith) ∙ ap (λ k. 2 ^ k - 1) e) ∙ and_mask word w
