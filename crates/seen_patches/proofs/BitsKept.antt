-- Words in which nothing is written behind a bit.
use Rattle.std.proofs.Common.{◌≡◌, ℕ, zero, suc, ◌+◌, ◌*◌, ◌/◌, ◌%◌, ◌^◌, ◌<◌, ◌≤◌, List, length, take, ◌++◌, sym, ap, subst, ◌∙◌, arith}
use Rattle.std.proofs.Math.Seq.{take-append_seam}
use Rattle.std.proofs.Math.Nat.{mod-eq_of_lt, pow-suc}
use Rattle.std.proofs.lemmas.Nat.{mod_below, pow_pos, shr_below, shr_split}
use Rattle.bit_array.specs.Element.{element_of, number_of}

below_power : (k : ℕ) → k < 2 ^ k
below_power zero = omega arith
below_power (suc k) = omega (arith, below_power k, pow-suc 2 k)

-- a number whose digits from one on are those of a number that has none there
no_digits : (old new limit : ℕ) → ((v : ℕ) → new / 2 ^ limit % 2 ^ v ≡ old / 2 ^ limit % 2 ^ v) → old < 2 ^ limit → new < 2 ^ limit
no_digits old new limit same below =
    let high = new / 2 ^ limit in
    let none_more : limit ≡ 0 + limit = omega arith in
    let old_small : old / 2 ^ limit < 2 ^ 0 = shr_below old 0 limit (subst (λ (n : ℕ). old < 2 ^ n) none_more below) in
    let old_none : old / 2 ^ limit ≡ 0 = omega arith in
    let none : 0 % 2 ^ high ≡ 0 = mod-eq_of_lt (pow_pos high) in
    let high_none : high ≡ 0 = sym (mod-eq_of_lt (below_power high)) ∙ same high ∙ ap (λ (n : ℕ). n % 2 ^ high) old_none ∙ none in
    let split : high * 2 ^ limit + new % 2 ^ limit ≡ new = shr_split new limit in
    let gone : 0 * 2 ^ limit ≡ 0 = omega arith in
    let product : high * 2 ^ limit ≡ 0 = ap (λ (n : ℕ). n * 2 ^ limit) high_none ∙ gone in
    let low = mod_below new (2 ^ limit) (pow_pos limit) in
    omega (arith, split, product, low)

-- where no bit behind the limit is written there is none
pub bits_kept : (old new : List ℕ) (limit : ℕ) → ((at v : ℕ) → limit ≤ at → element_of new at v ≡ element_of old at v) → number_of old < 2 ^ limit → number_of new < 2 ^ limit
unfolding element_of
bits_kept old new limit behind below = no_digits (number_of old) (number_of new) limit (λ v. behind limit v (omega arith)) below

-- the same of words that were made without a bit, and written over whole
pub written_below : (made old new behind words : List ℕ) (len limit : ℕ) → number_of made ≡ 0 → old ≡ made → words ≡ take len (new ++ behind) → len ≡ length new
    → (number_of old < 2 ^ limit → number_of new < 2 ^ limit) → number_of words < 2 ^ limit
written_below made old new behind words len limit none is_old is long kept =
    let all : take len (new ++ behind) ≡ new = subst (λ (n : ℕ). take n (new ++ behind) ≡ new) (sym long) (take-append_seam new behind) in
    let empty : number_of old ≡ 0 = ap number_of is_old ∙ none in
    let below : number_of new < 2 ^ limit = kept (omega (arith, empty, pow_pos limit)) in
    subst (λ (ws : List ℕ). number_of ws < 2 ^ limit) (sym (is ∙ all)) below
