-- Lemmas on lists that are copied.
use Rattle.std.proofs.Common.{◌≡◌, ℕ, ◌-◌, ◌*◌, ◌^◌, ◌<◌, ◌≤◌, ◌+◌, List, length, get_or, inl, inr, ap, ◌∙◌, subst, sym, arith, Fits, w32}
use Rattle.std.specs.Prelude.{All}
use Rattle.std.proofs.lemmas.Bool.{cases_lt}
use Rattle.std.proofs.lemmas.List.{get_or_past, take_all}
use Rattle.bit_array.specs.Element.{number_of}
use Rattle.list_codec.specs.ListPlace.{elements_between}
use Rattle.list_codec.proofs.Written.{WrittenSoFar}

-- ordinals fit 32 bits
pub ordinals_fit : (ordinals : List ℕ) → All (λ ordinal. ordinal ≤ 2 ^ 32 - 1) ordinals → (i : ℕ) → Fits w32 (get_or ordinals i 0)
ordinals_fit ordinals all i =
    elim (cases_lt i (length ordinals)) [
      | inl less ↦ record { fits = omega (arith, all i 0 less) }
      | inr past ↦ subst (λ (n : ℕ). Fits w32 n) (sym (get_or_past ordinals i 0 past)) (record { fits = omega arith })
    ]

-- all elements are written
pub all_written : (old words : List ℕ) (width start index at : ℕ) (elements : List ℕ) → WrittenSoFar old words width start index at elements → index ≡ length elements
    → (elements_between words width start (start + length elements) ≡ elements) × (number_of old < 2 ^ (start * width) → number_of words < 2 ^ ((start + length elements) * width))
all_written old words width start index at elements written whole = (
  ap (λ (n : ℕ). elements_between words width start (start + n)) (sym whole) ∙ written.are ∙ take_all index elements (omega (arith, whole)),
  λ below. subst (λ (n : ℕ). number_of words < 2 ^ ((start + n) * width)) whole (written.bits below),
)
