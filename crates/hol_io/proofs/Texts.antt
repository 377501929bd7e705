-- The texts of names: what a version's digits are, and where they end.
use Rattle.std.proofs.Common.{◌≡◌, ℕ, zero, suc, ◌^◌, ◌<◌, ◌≤◌, List, [], ◌∷◌, ◌++◌, length, get_or, drop, Option, Some, None, Result, Ok, Err, Bor, MatchOption, refl, ap, sym, ◌∙◌, subst, arith}
use Rattle.std.specs.Fmt.{decimal}
use Rattle.std.specs.Result.{result_ok}
use Rattle.std.specs.Str.Parse.{AllDigits, digits_value, ParsesUnsigned}
use Rattle.std.proofs.lemmas.Fmt.{decimal_digit, decimal_is_IsNumeral, decimal_injective, decimal-digits_value, first_decimal}
use Rattle.std.proofs.lemmas.Str.Parse.{IsNumeralModel, numerals_by_value, tells_digits, parse_plain, digit_from_value, digit_at, not_in_digits}
use Rattle.std.proofs.lemmas.Str.Pattern.{IsSplitOnceResult, split_after, split_parts}
use Rattle.hol_io.specs.Name.{IsVersion, TellsVersion, TellsStep, text_of_step}

own : IsNumeralModel (AllDigits 10) (digits_value 10)
own = numerals_by_value (AllDigits 10) tells_digits

-- The digits of a version begin with one from 1 to 9.
pub version_first : (version : ℕ) (text : List ℕ) → IsVersion version → decimal version ≡ text → (49 ≤ get_or text 0 0) × (get_or text 0 0 ≤ 57) × (0 < length text)
version_first version text is e =
    let numeral = decimal_is_IsNumeral version (omega arith) in
    let above = first_decimal version (omega arith) (omega arith) in
    let digit = digit_at (decimal version) 0 numeral.0.1 numeral.0.0 in
    let first : get_or (decimal version) 0 0 ≡ get_or text 0 0 = ap (λ t. get_or t 0 0) e in
    let long : length (decimal version) ≡ length text = ap length e in
    (omega arith, omega (arith, digit.0, digit.1), omega (arith, numeral.0.0))

no_version : (text : List ℕ) → ¬ (AllDigits 10 text × (0 < length text) × (digits_value 10 text < 2 ^ 64)) → TellsVersion text None
no_version text none version is same =
    let numeral = decimal_is_IsNumeral version (omega arith) in
    none (subst (AllDigits 10) same numeral.0.1, omega (arith, numeral.0.0, ap length same), omega (arith, numeral.1, ap (digits_value 10) same))

digits_read : (text : List ℕ) (n : ℕ) → AllDigits 10 text × (0 < length text) × (digits_value 10 text < 2 ^ 64) → digits_value 10 text ≡ n → 49 ≤ get_or text 0 0 → decimal n ≡ text
digits_read text n plain is first =
    ap decimal (sym is) ∙ decimal-digits_value own text plain.0 plain.1 (λ zero. absurd (omega arith)) plain.2

past_last : (text : List ℕ) (n : ℕ) → decimal n ≡ text → 2 ^ 63 ≤ n → n < 2 ^ 64 → TellsVersion text None
past_last text n read large fits version is same =
    omega (arith, decimal_injective version n (omega arith) fits (same ∙ sym read))

not_zero : (text : List ℕ) (n : ℕ) → decimal n ≡ text → 49 ≤ get_or text 0 0 → 1 ≤ n
not_zero text zero read first = omega (arith, ap (λ s. get_or s 0 0) (sym (decimal_digit 0 (omega arith)) ∙ read))
not_zero text (suc n) read first = omega arith

-- What a number says of the version that a text is, where its first digit is not zero.
abbrev pub TellsNumber : List ℕ → Option ℕ → Type 0
TellsNumber text None = TellsVersion text None
TellsNumber text (Some n) = (1 ≤ n) × (decimal n ≡ text) × (2 ^ 63 ≤ n → TellsVersion text None)

pub number_told : {E : Type 0} (text : List ℕ) (parsed : Result ℕ E) (o : Option ℕ) → ParsesUnsigned 64 10 text parsed → 49 ≤ get_or text 0 0 → o ≡ result_ok parsed → TellsNumber text o
number_told {E} text (Err e) o parses first is = subst (TellsNumber text) (sym is) (no_version text (parse_plain own {E = E} 64 text (Err e) parses (omega arith)))
number_told {E} text (Ok n) o parses first is =
    let plain = parse_plain own {E = E} 64 text (Ok n) parses (omega arith) in
    let read = digits_read text n plain.0 (sym plain.1) first in
    subst (TellsNumber text) (sym is) (not_zero text n read first, read, λ large. past_last text n read large (omega (arith, plain.0.2, plain.1)))

-- Digits end at the first dash.
digits_apart : (xs zs ys ws : List ℕ) → AllDigits 10 xs → AllDigits 10 zs → xs ++ (45 ∷ ys) ≡ zs ++ (45 ∷ ws) → (xs ≡ zs) × (ys ≡ ws)
digits_apart [] [] ys ws a b e = (refl, ap (drop 1) e)
digits_apart [] (z ∷ zs) ys ws a b e = let digit = digit_from_value z b.0 in absurd (omega (arith, digit.0, ap (λ s. get_or s 0 0) e))
digits_apart (x ∷ xs) [] ys ws a b e = let digit = digit_from_value x a.0 in absurd (omega (arith, digit.0, ap (λ s. get_or s 0 0) e))
digits_apart (x ∷ xs) (z ∷ zs) ys ws a b e =
    let rest = digits_apart xs zs ys ws a.1 b.1 (ap (drop 1) e) in
    let head : x ≡ z = ap (λ s. get_or s 0 0) e in
    ((λ i. head i ∷ rest.0 i), rest.1)

version_digits : (version : ℕ) → IsVersion version → AllDigits 10 (decimal version)
version_digits version is = let numeral = decimal_is_IsNumeral version (omega arith) in numeral.0.1

-- Two steps with one text are one step.
pub same_step : (from to begin end : ℕ) → IsVersion from → IsVersion to → IsVersion begin → IsVersion end → text_of_step from to ≡ text_of_step begin end → (from ≡ begin) × (to ≡ end)
same_step from to begin end f t b n e =
    let parts = digits_apart (decimal from) (decimal begin) (decimal to) (decimal end) (version_digits from f) (version_digits begin b) e in
    (decimal_injective from begin (omega arith) (omega arith) parts.0, decimal_injective to end (omega arith) (omega arith) parts.1)

-- A step's text is cut at its dash.
step_cut : (text : List ℕ) (cut : Option (Bor (List ℕ) × Bor (List ℕ))) → IsSplitOnceResult 45 text cut → (from to : ℕ) → IsVersion from → IsVersion to → text_of_step from to ≡ text → MatchOption cut ⊥ (λ x. (x.0.now ≡ decimal from) × (x.1.now ≡ decimal to))
step_cut text cut is from to f t e =
    split_after 45 text (decimal from) (decimal to) cut is (omega arith) (sym e)
    (not_in_digits own (decimal from) 45 (version_digits from f) (λ digit. omega (arith, digit.0)))

-- Without a dash there is no step.
pub no_dash : (text : List ℕ) (cut : Option (Bor (List ℕ) × Bor (List ℕ))) → IsSplitOnceResult 45 text cut → cut ≡ None → TellsStep text None
no_dash text cut is none from to f t e = subst (λ c. MatchOption c ⊥ (λ x. (x.0.now ≡ decimal from) × (x.1.now ≡ decimal to))) none (step_cut text cut is from to f t e)

-- What stands before the dash and after it.
cut_parts : (text : List ℕ) (cut : Option (Bor (List ℕ) × Bor (List ℕ))) (first rest : Bor (List ℕ)) → IsSplitOnceResult 45 text cut → cut ≡ Some (first, rest) → (from to : ℕ) → IsVersion from → IsVersion to → text_of_step from to ≡ text → (first.now ≡ decimal from) × (rest.now ≡ decimal to)
cut_parts text cut first rest is found from to f t e =
    subst (λ c. MatchOption c ⊥ (λ x. (x.0.now ≡ decimal from) × (x.1.now ≡ decimal to))) found (step_cut text cut is from to f t e)

-- Where a part is no version there is no step.
pub no_first : (text : List ℕ) (cut : Option (Bor (List ℕ) × Bor (List ℕ))) (first rest : Bor (List ℕ)) (read : Option ℕ) → IsSplitOnceResult 45 text cut → cut ≡ Some (first, rest) → TellsVersion first.now read → read ≡ None → TellsStep text None
no_first text cut first rest read is found told none from to f t e =
    let parts = cut_parts text cut first rest is found from to f t e in
    let refused : TellsVersion first.now None = subst (TellsVersion first.now) none told in
    refused from f (sym parts.0)

pub no_second : (text : List ℕ) (cut : Option (Bor (List ℕ) × Bor (List ℕ))) (first rest : Bor (List ℕ)) (read : Option ℕ) → IsSplitOnceResult 45 text cut → cut ≡ Some (first, rest) → TellsVersion rest.now read → read ≡ None → TellsStep text None
no_second text cut first rest read is found told none from to f t e =
    let parts = cut_parts text cut first rest is found from to f t e in
    let refused : TellsVersion rest.now None = subst (TellsVersion rest.now) none told in
    refused to t (sym parts.1)

-- Two versions with the dash between them are a step.
pub step_found : (text : List ℕ) (cut : Option (Bor (List ℕ) × Bor (List ℕ))) (first rest : Bor (List ℕ)) (from to : ℕ) → IsSplitOnceResult 45 text cut → cut ≡ Some (first, rest) → TellsVersion first.now (Some from) → TellsVersion rest.now (Some to) → TellsStep text (Some (from, to))
step_found text cut first rest from to is found f t =
    let parts = split_parts 45 text (Some (first, rest)) (subst (IsSplitOnceResult 45 text) found is) (omega arith) in
    (f.0, t.0, (λ i. f.1 i ++ (45 ∷ t.1 i)) ∙ sym parts.0)
