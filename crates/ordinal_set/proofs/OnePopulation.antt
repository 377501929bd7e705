-- The words of a population are determined by the set and the greatest ordinal: they have the same bits.
use Rattle.std.proofs.Common.{◌≡◌, ℕ, ◌+◌, ◌*◌, ◌/◌, ◌%◌, ◌^◌, ◌<◌, inl, inr, List, Option, get_or, length, true, sym, ap, ◌∙◌, subst, arith}
use Rattle.std.specs.Prelude.{All, Contains}
use Rattle.std.specs.Int.{bit_at}
use Rattle.std.proofs.lemmas.Bool.{cases_lt, eqb-true}
use Rattle.std.proofs.lemmas.Grind.{same_number_lists}
use Rattle.std.proofs.lemmas.Nat.Bits.{bit_at-lt, same_from_bits_below}
use Rattle.ordinal_set.specs.Population.{has_bit, population_of, words_bytes, IsPopulation}
use Rattle.ordinal_set.proofs.Populations.{bit_from_member, member_from_bit, set_bit}

-- the bit of a number that a word has
bit_one : (words : List ℕ) (place bit : ℕ) → bit < 64 → bit_at (get_or words place 0) bit ≡ 1 → has_bit words (64 * place + bit) ≡ true
bit_one words place bit below one =
    let word : (64 * place + bit) / 64 ≡ place = omega arith in
    let rest : (64 * place + bit) % 64 ≡ bit = omega arith in
    set_bit words (64 * place + bit) (ap (λ k. bit_at (get_or words k 0) ((64 * place + bit) % 64)) word ∙ ap (bit_at (get_or words place 0)) rest ∙ one)

one_bit : (words : List ℕ) (place bit : ℕ) → bit < 64 → has_bit words (64 * place + bit) ≡ true → bit_at (get_or words place 0) bit ≡ 1
unfolding has_bit
one_bit words place bit below set =
    let word : (64 * place + bit) / 64 ≡ place = omega arith in
    let rest : (64 * place + bit) % 64 ≡ bit = omega arith in
    sym (ap (λ k. bit_at (get_or words k 0) ((64 * place + bit) % 64)) word ∙ ap (bit_at (get_or words place 0)) rest)
    ∙ eqb-true (bit_at (get_or words ((64 * place + bit) / 64) 0) ((64 * place + bit) % 64)) 1 set

-- a bit of one is a bit of the other
bit_of_other : (a b : List ℕ) (place bit : ℕ) → population_of a ≡ population_of b → bit < 64 → bit_at (get_or a place 0) bit ≡ 1 → bit_at (get_or b place 0) bit ≡ 1
bit_of_other a b place bit same below one =
    one_bit b place bit below (bit_from_member b (64 * place + bit)
    (subst (λ (set : List ℕ). Contains set (64 * place + bit)) same (member_from_bit a (64 * place + bit) (bit_one a place bit below one))))

same_bit : (x y bit : ℕ) → (bit_at x bit ≡ 1 → bit_at y bit ≡ 1) → (bit_at y bit ≡ 1 → bit_at x bit ≡ 1) → bit_at x bit ≡ bit_at y bit
same_bit x y bit forth back =
    let x_small = bit_at-lt x bit in
    let y_small = bit_at-lt y bit in
    elim (cases_lt (bit_at x bit) 1) [
      | inl none ↦
          elim (cases_lt (bit_at y bit) 1) [
            | inl other ↦ omega (arith, none, other)
            | inr other ↦ let one : bit_at y bit ≡ 1 = omega (arith, other, y_small) in back one ∙ sym one
          ]
      | inr some ↦ let one : bit_at x bit ≡ 1 = omega (arith, some, x_small) in one ∙ sym (forth one)
    ]

same_words : (a b : List ℕ) → length a ≡ length b → All (λ word. word < 2 ^ 64) a → All (λ word. word < 2 ^ 64) b → population_of a ≡ population_of b → a ≡ b
same_words a b long narrow narrow' same =
    same_number_lists a b long
    (λ k inside. same_from_bits_below 64 (get_or a k 0) (get_or b k 0) (narrow k 0 inside) (narrow' k 0 (omega (arith, long, inside)))
    (λ bit below. same_bit (get_or a k 0) (get_or b k 0) bit (bit_of_other a b k bit same below) (bit_of_other b a k bit (sym same) below)))

pub populated_once : (set : List ℕ) (max : Option ℕ) (bytes bytes' : List ℕ) → IsPopulation set max bytes → IsPopulation set max bytes' → bytes ≡ bytes'
populated_once set max bytes bytes' one other =
    one.is
    ∙ ap (λ (words : List ℕ). words_bytes words) (same_words one.words other.words (one.many ∙ sym other.many) one.range other.range (one.bits ∙ sym other.bits))
    ∙ sym other.is
