-- Lemmas on how many members the bits of words stand for.
use Rattle.std.proofs.Common.{◌≡◌, ℕ, ◌+◌, ◌*◌, ◌/◌, ◌%◌, ◌^◌, ◌<◌, ◌≤◌, zero, suc, Bool, List, get_or, length, cond, refl, sym, ap, ◌∙◌, subst, arith, eqb, add-zero, zero-add}
use Rattle.std.specs.Int.{bit_at}
use Rattle.std.specs.Int.Count.{ones, ones_step}
use Rattle.std.specs.List.{count_by, range_with_len}
use Rattle.std.proofs.lemmas.List.FromFn.{length-range_with_len}
use Rattle.std.proofs.lemmas.List.Sums.{count_by-le-length, length-filter, sum_by-cons}
use Rattle.std.proofs.lemmas.Nat.{shr-shr, shr_below}
use Rattle.std.proofs.lemmas.Nat.Bits.{bit_at-lt}
use Rattle.ordinal_set.specs.Population.{has_bit, population_of}

-- how many of these ordinals have their bit set
abbrev pub count_set : List ℕ → ℕ → ℕ → ℕ
count_set words from count = count_by (has_bit words) (range_with_len from count)

abbrev digit : Bool → ℕ
digit bit = cond bit 1 0

first_counted : (words : List ℕ) (from count : ℕ) → count_set words from (suc count) ≡ digit (has_bit words from) + count_set words (from + 1) count
first_counted words from count = sum_by-cons (λ o. digit (has_bit words o)) from (range_with_len (from + 1) count)

joined : (words : List ℕ) (from m n : ℕ) → count_set words from (m + n) ≡ count_set words from m + count_set words (from + m) n
joined words from zero n =
    let none : count_set words from 0 ≡ 0 = refl in
    omega (arith, none, ap (count_set words from) (zero-add n), ap (λ at. count_set words at n) (add-zero from))
joined words from (suc m) n =
    let next : from + 1 + m ≡ from + suc m = omega arith in
    let longer : suc m + n ≡ suc (m + n) = omega arith in
    let more = joined words (from + 1) m n in
    let there = ap (λ at. count_set words at n) next in
    omega (arith, ap (count_set words from) longer, first_counted words from (m + n), first_counted words from m, more, there)

-- a bit of a word, as the digit that its number has there
digit_is : (words : List ℕ) (place bit : ℕ) → bit < 64 → digit (has_bit words (64 * place + bit)) ≡ bit_at (get_or words place 0) bit
unfolding has_bit
digit_is words place bit below =
    let word : (64 * place + bit) / 64 ≡ place = omega arith in
    let rest : (64 * place + bit) % 64 ≡ bit = omega arith in
    ap (λ k. digit (eqb (bit_at (get_or words k 0) ((64 * place + bit) % 64)) 1)) word ∙ ap (λ b. digit (eqb (bit_at (get_or words place 0) b) 1)) rest
    ∙ as_digit (bit_at (get_or words place 0) bit) (bit_at-lt (get_or words place 0) bit)
  where
    as_digit : (b : ℕ) → b < 2 → digit (eqb b 1) ≡ b
    as_digit zero h = refl
    as_digit (suc zero) h = refl
    as_digit (suc (suc b)) h = absurd (omega (arith, h))

-- the bits of a word from one on
rest_of_word : (words : List ℕ) (place count bit : ℕ) → bit + count ≡ 64 → get_or words place 0 < 2 ^ 64 → count_set words (64 * place + bit) count ≡ ones (get_or words place 0 / 2 ^ bit)
unfolding ones
rest_of_word words place zero bit whole below =
    let last : bit ≡ 64 = omega (arith, whole) in
    let small : get_or words place 0 / 2 ^ 64 < 1 = shr_below (get_or words place 0) 0 64 below in
    let none : get_or words place 0 / 2 ^ 64 ≡ 0 = omega (arith, small) in
    sym (ap ones (ap (λ b. get_or words place 0 / 2 ^ b) last ∙ none))
rest_of_word words place (suc count) bit whole below =
    let here : 64 * place + bit + 1 ≡ 64 * place + (bit + 1) = omega arith in
    let more = rest_of_word words place count (bit + 1) (omega (arith, whole)) below in
    let half = ap ones (shr-shr (get_or words place 0) bit 1) in
    let there = ap (λ at. count_set words at count) here in
    omega (arith, first_counted words (64 * place + bit) count, digit_is words place bit (omega (arith, whole)), ones_step (get_or words place 0 / 2 ^ bit), more, half, there)

word_counted : (words : List ℕ) (place : ℕ) → get_or words place 0 < 2 ^ 64 → count_set words (64 * place) 64 ≡ ones (get_or words place 0)
word_counted words place below =
    let at : 64 * place + 0 ≡ 64 * place = omega arith in
    let same : get_or words place 0 / 2 ^ 0 ≡ get_or words place 0 = omega arith in
    ap (λ o. count_set words o 64) (sym at) ∙ rest_of_word words place 64 0 refl below ∙ ap ones same

-- one more word is counted
pub word_more : (words : List ℕ) (place : ℕ) → get_or words place 0 < 2 ^ 64 → count_set words 0 (64 * (place + 1)) ≡ count_set words 0 (64 * place) + ones (get_or words place 0)
word_more words place below =
    let many : 64 * (place + 1) ≡ 64 * place + 64 = omega arith in
    ap (count_set words 0) many ∙ joined words 0 (64 * place) 64
    ∙ ap (λ n. count_set words 0 (64 * place) + n) (ap (λ at. count_set words at 64) (zero-add (64 * place)) ∙ word_counted words place below)

few_counted : (words : List ℕ) (from count : ℕ) → count_set words from count ≤ count
few_counted words from count = subst (λ n. count_set words from count ≤ n) (length-range_with_len from count) (count_by-le-length (has_bit words) (range_with_len from count))

-- no more are counted than there are bits
pub few_more : (words : List ℕ) (place : ℕ) → get_or words place 0 < 2 ^ 64 → count_set words 0 (64 * place) + ones (get_or words place 0) ≤ 64 * (place + 1)
few_more words place below = subst (λ n. n ≤ 64 * (place + 1)) (word_more words place below) (few_counted words 0 (64 * (place + 1)))

-- all words are counted
pub all_counted : (words : List ℕ) → count_set words 0 (64 * length words) ≡ length (population_of words)
unfolding population_of
all_counted words = sym (length-filter (has_bit words) (range_with_len 0 (64 * length words)))
