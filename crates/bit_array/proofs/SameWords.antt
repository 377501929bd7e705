-- Lemmas on words that have the same elements of a width one after another: they are the same words.
use Rattle.std.proofs.Common.{◌≡◌, ℕ, zero, suc, ◌+◌, ◌*◌, ◌/◌, ◌%◌, ◌^◌, ◌<◌, List, [], ◌∷◌, length, All, arith, refl, sym, ap, ◌∙◌}
use Rattle.std.proofs.Math.Nat.{mod-eq_of_lt}
use Rattle.std.proofs.lemmas.Nat.{mod-pow-add, shr-shr, same_from_place}
use Rattle.bit_array.specs.Element.{number_of, element_of}

-- two elements side by side as one
element_of_both : (words : List ℕ) (at low high : ℕ) → element_of words at (low + high) ≡ element_of words (at + low) high * 2 ^ low + element_of words at low
unfolding element_of
element_of_both words at low high =
    let turned : low + high ≡ high + low = omega arith in
    ap (λ k. number_of words / 2 ^ at % 2 ^ k) turned
    ∙ mod-pow-add (number_of words / 2 ^ at) high low
    ∙ ap (λ k. k % 2 ^ high * 2 ^ low + number_of words / 2 ^ at % 2 ^ low) (shr-shr (number_of words) at low)

pub same_both : (a b : List ℕ) (at low high : ℕ) → element_of a at low ≡ element_of b at low → element_of a (at + low) high ≡ element_of b (at + low) high
    → element_of a at (low + high) ≡ element_of b at (low + high)
same_both a b at low high first second =
    element_of_both a at low high
    ∙ ap (λ e. e * 2 ^ low + element_of a at low) second
    ∙ ap (λ e. element_of b (at + low) high * 2 ^ low + e) first
    ∙ sym (element_of_both b at low high)

-- the bits of the first elements
same_front : (a b : List ℕ) (width count : ℕ) → ((index : ℕ) → index < count → element_of a (index * width) width ≡ element_of b (index * width) width)
    → number_of a % 2 ^ (count * width) ≡ number_of b % 2 ^ (count * width)
unfolding element_of
same_front a b width zero same =
    let none : zero * width ≡ 0 = omega arith in
    let one : number_of a % 1 ≡ number_of b % 1 = omega arith in
    ap (λ k. number_of a % 2 ^ k) none ∙ one ∙ ap (λ k. number_of b % 2 ^ k) (sym none)
same_front a b width (suc count) same =
    let more : suc count * width ≡ width + count * width = omega arith in
    let front = same_front a b width count (λ index below. same index (omega arith)) in
    ap (λ k. number_of a % 2 ^ k) more
    ∙ mod-pow-add (number_of a) width (count * width)
    ∙ ap (λ e. e * 2 ^ (count * width) + number_of a % 2 ^ (count * width)) (same count (omega arith))
    ∙ ap (λ e. number_of b / 2 ^ (count * width) % 2 ^ width * 2 ^ (count * width) + e) front
    ∙ sym (mod-pow-add (number_of b) width (count * width))
    ∙ ap (λ k. number_of b % 2 ^ k) (sym more)

-- with no bit behind these
pub same_number : (a b : List ℕ) (width count : ℕ) → number_of a < 2 ^ (count * width) → number_of b < 2 ^ (count * width)
    → ((index : ℕ) → index < count → element_of a (index * width) width ≡ element_of b (index * width) width) → number_of a ≡ number_of b
same_number a b width count below below' same = sym (mod-eq_of_lt below) ∙ same_front a b width count same ∙ mod-eq_of_lt below'

-- a number has one list of so many words
pub same_words : (a b : List ℕ) → length a ≡ length b → All (λ word. word < 2 ^ 64) a → All (λ word. word < 2 ^ 64) b → number_of a ≡ number_of b → a ≡ b
unfolding number_of
same_words [] [] long narrow narrow' same = refl
same_words [] (y ∷ b) long narrow narrow' same = absurd (omega (arith, long))
same_words (x ∷ a) [] long narrow narrow' same = absurd (omega (arith, long))
same_words (x ∷ a) (y ∷ b) long narrow narrow' same =
    let both = same_from_place (number_of a) x (number_of b) y (2 ^ 64) (narrow 0 0 (omega arith)) (narrow' 0 0 (omega arith)) same in
    let rest = same_words a b (omega (arith, long)) (λ k d below. narrow (suc k) d (omega arith)) (λ k d below. narrow' (suc k) d (omega arith)) both.0 in
    ap (λ w. w ∷ a) both.1 ∙ ap (λ l. y ∷ l) rest
