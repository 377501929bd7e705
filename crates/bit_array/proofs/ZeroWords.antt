-- Words of zeros, as a number and counted.
use Rattle.std.proofs.Common.{◌≡◌, ℕ, zero, suc, List, length, refl, ap, ◌∙◌, arith}
use Rattle.std.specs.Prelude.{replicate}
use Rattle.std.proofs.lemmas.List.{length-replicate}
use Rattle.bit_array.specs.Element.{number_of}

pub number_zeros : (count : ℕ) → number_of (replicate count 0) ≡ 0
unfolding number_of
number_zeros zero = refl
number_zeros (suc count) = let rest = number_zeros count in omega arith

pub zeros_long : (words : List ℕ) (count : ℕ) → words ≡ replicate count 0 → length words ≡ count
zeros_long words count is = ap (λ (ws : List ℕ). length ws) is ∙ length-replicate count 0

pub zeros_none : (words : List ℕ) (count : ℕ) → words ≡ replicate count 0 → number_of words ≡ 0
zeros_none words count is = ap number_of is ∙ number_zeros count
