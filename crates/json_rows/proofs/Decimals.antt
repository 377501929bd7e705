-- The digits of a number, put one by one.
use Rattle.std.proofs.Common.{◌≡◌, ℕ, ℤ, pos, negsuc, ◌+◌, ◌/◌, ◌%◌, ◌^◌, ◌<◌, ◌≤◌, true, List, [], ◌∷◌, ◌++◌, int_le, unsigned_abs, refl, sym, ap, ◌∙◌}
use Rattle.std.proofs.lemmas.Fmt.{decimal_digit}
use Rattle.std.specs.Fmt.{decimal, signed_decimal}
use Rattle.itoa.proofs.Decimal.{pair, decimal_two, decimal_pair, decimal_four}
use Rattle.json_rows.proofs.Behind.{behind_both}

-- a number of one digit
pub one_put : (number digit : ℕ) (old new : List ℕ) → new ≡ old ++ digit ∷ [] → digit ≡ 48 + number → number < 10 → new ≡ old ++ decimal number
one_put number digit old new put is few = put ∙ (λ i. old ++ (is i ∷ [])) ∙ ap (λ t. old ++ t) (sym (decimal_digit number few))

-- two digits
pub tens_put : (number tens ones : ℕ) (old mid new : List ℕ) → mid ≡ old ++ tens ∷ [] → new ≡ mid ++ ones ∷ [] → tens ≡ 48 + number / 10 → ones ≡ 48 + number % 10 → new ≡ old ++ pair number
tens_put number tens ones old mid new first second is also = behind_both old mid new (tens ∷ []) (ones ∷ []) first second ∙ (λ i. old ++ (is i ∷ also i ∷ []))

-- a number of two
pub two_put : (number : ℕ) (old new : List ℕ) → new ≡ old ++ pair number → 10 ≤ number → number < 100 → new ≡ old ++ decimal number
two_put number old new put many few = put ∙ ap (λ t. old ++ t) (sym (decimal_two number many few))

-- a number of three or four, by its last two
pub four_put : (number : ℕ) (old mid new : List ℕ) → mid ≡ old ++ decimal (number / 100) → new ≡ mid ++ pair (number % 100) → 100 ≤ number → number < 2 ^ 64 → new ≡ old ++ decimal number
four_put number old mid new first second many few =
    behind_both old mid new (decimal (number / 100)) (pair (number % 100)) first second ∙ ap (λ t. old ++ t) (sym (decimal_pair number many few))

-- a number of more, by its last four
pub few_put : (number : ℕ) (old high mid new : List ℕ) → high ≡ old ++ decimal (number / 10000) → mid ≡ high ++ pair (number % 10000 / 100) → new ≡ mid ++ pair (number % 10000 % 100) →
    10000 ≤ number → number < 2 ^ 64 → new ≡ old ++ decimal number
few_put number old high mid new first second third many few =
    let last = behind_both high mid new (pair (number % 10000 / 100)) (pair (number % 10000 % 100)) second third in
    behind_both old high new (decimal (number / 10000)) (pair (number % 10000 / 100) ++ pair (number % 10000 % 100)) first last ∙ ap (λ t. old ++ t) (sym (decimal_four number many few))

-- a number that is not negative has no sign
pub no_sign : (z : ℤ) → int_le (pos 0) z ≡ true → decimal (unsigned_abs z) ≡ signed_decimal z
no_sign (pos n) is = refl
no_sign (negsuc n) is = absurd cc
