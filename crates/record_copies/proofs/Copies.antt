-- Lemmas on the first bits of words, copied into words of zeros, or behind the words of them that stand there.
use Rattle.std.proofs.Common.{◌≡◌, ℕ, zero, suc, ◌+◌, ◌-◌, ◌*◌, ◌/◌, ◌%◌, ◌^◌, ◌<◌, ◌≤◌, ◌++◌, List, length, get_or, take, drop, refl, sym, ap, ◌∙◌, subst, arith, Fits, w64}
use Rattle.std.specs.Prelude.{min, replicate, sum}
use Rattle.std.proofs.Math.Nat.{mul-le-mul_right, zero-mod, zero-mul, div-one, div-eq_of_lt}
use Rattle.std.proofs.Math.Pow.{pow_mono}
use Rattle.std.proofs.lemmas.List.{drop-replicate, length-replicate}
use Rattle.std.proofs.lemmas.Nat.{pow_pos, mod_below, mod-pow-add}
use Rattle.bit_array.specs.Element.{number_of, element_of, SetsBlock}
use Rattle.bit_array.proofs.Elements.{field_within}
use Rattle.bit_array.proofs.WordRuns.{words_put}
use Rattle.record_copies.specs.Fixed.{HasFront, record_at, whole_words}

number_of-zeros : (count : ℕ) → number_of (replicate count 0) ≡ 0
unfolding number_of
number_of-zeros zero = refl
number_of-zeros (suc count) = let rest = number_of-zeros count in ap (λ n. n * 2 ^ 64 + 0) rest

-- the first bits of words, put into words of zeros
pub front_copied : (from to new : List ℕ) (bits : ℕ) → to ≡ replicate (length to) 0 → SetsBlock to new 0 bits (element_of from 0 bits) → number_of new ≡ number_of from % 2 ^ bits
unfolding element_of
front_copied from to new bits zeros block =
    let none : number_of to ≡ 0 = ap number_of zeros ∙ number_of-zeros (length to) in
    let clear : number_of to / 2 ^ 0 % 2 ^ bits ≡ 0 = ap (λ n. n / 2 ^ 0 % 2 ^ bits) none ∙ zero-mod (2 ^ bits) in
    let front : number_of from / 2 ^ 0 % 2 ^ bits ≡ number_of from % 2 ^ bits = ap (λ n. n % 2 ^ bits) (div-one (number_of from)) in
    omega (arith, none, clear, front, block)

zeros_fit : (count k : ℕ) → Fits w64 (get_or (replicate count 0) k 0)
zeros_fit zero k = record { fits = omega arith }
zeros_fit (suc count) zero = record { fits = omega arith }
zeros_fit (suc count) (suc k) = zeros_fit count k

-- the first words of others, with zeros behind them, are the lowest bits of these
front_words : (from to : List ℕ) (kept : ℕ) → ((k : ℕ) → Fits w64 (get_or from k 0)) → kept ≤ length from → kept ≤ length to → HasFront kept from to → number_of to ≡ number_of from % 2 ^ (64 * kept)
front_words from to kept fits inside within front =
    let zeros = replicate (length to) 0 in
    let many : length zeros ≡ length to = length-replicate (length to) 0 in
    let is : take kept from ++ drop kept zeros ≡ to = ap (λ (rest : List ℕ). take kept from ++ rest) (drop-replicate kept (length to) 0) ∙ sym front in
    let put : SetsBlock zeros (take kept from ++ drop kept zeros) 0 (64 * kept) (element_of from 0 (64 * kept)) =
    words_put zeros from (take kept from) 0 0 kept (zeros_fit (length to)) fits (omega (arith, within, many)) (omega (arith, inside)) refl in
    front_copied from zeros to (64 * kept) (ap (λ n. replicate n 0) (sym many)) (subst (λ (ws : List ℕ). SetsBlock zeros ws 0 (64 * kept) (element_of from 0 (64 * kept))) is put)

-- and so are more of them, where the next bits are put behind these
more_copied : (from to new : List ℕ) (done more : ℕ) → number_of to ≡ number_of from % 2 ^ done → SetsBlock to new done more (element_of from done more) → number_of new ≡ number_of from % 2 ^ (more + done)
unfolding element_of
more_copied from to new done more front block =
    let below : number_of to < 2 ^ done = subst (λ n. n < 2 ^ done) (sym front) (mod_below (number_of from) (2 ^ done) (pow_pos done)) in
    let clear : number_of to / 2 ^ done % 2 ^ more ≡ 0 = ap (λ n. n % 2 ^ more) (div-eq_of_lt below) ∙ zero-mod (2 ^ more) in
    let gone : number_of to / 2 ^ done % 2 ^ more * 2 ^ done ≡ 0 = ap (λ n. n * 2 ^ done) clear ∙ zero-mul (2 ^ done) in
    let both = mod-pow-add (number_of from) more done in
    omega (arith, gone, both, front, block)

-- the bits behind the whole words, put behind these
rest_copied : (from to new : List ℕ) (bits : ℕ) → ((k : ℕ) → Fits w64 (get_or from k 0)) → bits ≤ 64 * length from → bits ≤ 64 * length to → HasFront (bits / 64) from to
    → SetsBlock to new (bits / 64 * 64) (bits - bits / 64 * 64) (element_of from (bits / 64 * 64) (bits - bits / 64 * 64)) → number_of new ≡ number_of from % 2 ^ bits
rest_copied from to new bits fits source inside front block =
    let done : 64 * (bits / 64) ≡ bits / 64 * 64 = omega arith in
    let stands : number_of to ≡ number_of from % 2 ^ (bits / 64 * 64) = subst (λ n. number_of to ≡ number_of from % 2 ^ n) done (front_words from to (bits / 64) fits (omega arith) (omega arith) front) in
    let all : bits - bits / 64 * 64 + bits / 64 * 64 ≡ bits = omega arith in
    subst (λ n. number_of new ≡ number_of from % 2 ^ n) all (more_copied from to new (bits / 64 * 64) (bits - bits / 64 * 64) stands block)

pub rest_of_records : (widths from to new : List ℕ) (before places bits : ℕ) → ((k : ℕ) → Fits w64 (get_or from k 0)) → before * sum widths ≤ 64 * length from → places * sum widths ≤ 64 * length to → bits ≡ min before places * sum widths
    → HasFront (whole_words widths before places) from to → SetsBlock to new (bits / 64 * 64) (bits - bits / 64 * 64) (element_of from (bits / 64 * 64) (bits - bits / 64 * 64)) → number_of new ≡ number_of from % 2 ^ bits
rest_of_records widths from to new before places bits fits source inside is front block =
    let size = sum widths in
    let low : min before places ≤ before = omega arith in
    let low' : min before places ≤ places = omega arith in
    let first : min before places * size ≤ before * size = mul-le-mul_right size low in
    let second : min before places * size ≤ places * size = mul-le-mul_right size low' in
    let kept : HasFront (bits / 64) from to = subst (λ n. HasFront (n / 64) from to) (sym is) front in
    rest_copied from to new bits fits (omega (arith, is, first, source)) (omega (arith, is, second, inside)) kept block

-- then each record is copied that lies in the bits
pub record_copied : (widths from to : List ℕ) (count bits place : ℕ) → number_of to ≡ number_of from % 2 ^ bits → bits ≡ count * sum widths → place < count → record_at widths to place ≡ record_at widths from place
unfolding element_of
record_copied widths from to count bits place same is inside =
    let size = sum widths in
    let next : place + 1 ≤ count = omega arith in
    let product : (place + 1) * size ≤ count * size = mul-le-mul_right size next in
    let within : place * size + size ≤ bits = omega (arith, product, is) in
    ap (λ n. n / 2 ^ (place * size) % 2 ^ size) same ∙ sym (field_within (number_of from) bits (place * size) size within)

pub none_behind : (widths from to : List ℕ) (count bits : ℕ) → number_of to ≡ number_of from % 2 ^ bits → bits ≡ count * sum widths → number_of to < 2 ^ (count * sum widths)
none_behind widths from to count bits same is = subst (λ b. number_of to < 2 ^ b) is (subst (λ n. n < 2 ^ bits) (sym same) (mod_below (number_of from) (2 ^ bits) (pow_pos bits)))

-- and no record behind them has a bit
pub none_there : (widths to : List ℕ) (count place : ℕ) → number_of to < 2 ^ (count * sum widths) → count ≤ place → record_at widths to place ≡ 0
unfolding element_of
none_there widths to count place below past =
    let product : count * sum widths ≤ place * sum widths = mul-le-mul_right (sum widths) past in
    let most : 2 ^ (count * sum widths) ≤ 2 ^ (place * sum widths) = pow_mono product in
    let less : number_of to < 2 ^ (place * sum widths) = omega arith in
    ap (λ q. q % 2 ^ sum widths) (div-eq_of_lt less) ∙ zero-mod (2 ^ sum widths)
