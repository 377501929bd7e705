-- The greatest of some numbers, where it is picked as the code picks it.
use Rattle.std.proofs.Common.{◌≡◌, ℕ, List, [], ◌∷◌, Option, None, Some, max, refl, ap, ◌∙◌, arith, unwrap_or, option_map}
use Rattle.std.specs.Prelude.{fold}
use Rattle.std.specs.List.{reduce}

pub greatest_picked : (numbers : List ℕ) (found : Option ℕ) → option_map (λ number. number) found ≡ reduce max numbers → unwrap_or found 0 ≡ fold max 0 numbers
greatest_picked [] None picked = refl
greatest_picked [] (Some number) picked = absurd cc
greatest_picked (number ∷ rest) None picked = absurd cc
greatest_picked (number ∷ rest) (Some found) picked =
    let is : found ≡ fold max number rest = cc in
    let same : number ≡ max 0 number = omega arith in
    is ∙ ap (λ seen. fold max seen rest) same
