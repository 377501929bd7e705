-- Numbers in decimal: how they begin, and what parsing a text says of them.
use Rattle.std.proofs.Common.{◌≡◌, ◌≢◌, ℕ, zero, suc, lit<, ◌^◌, ◌<◌, List, length, get_or, Option, Some, None, Result, Ok, Err, ap, sym, ◌∙◌, subst, arith}
use Rattle.std.specs.Fmt.{decimal}
use Rattle.std.specs.Result.{result_ok}
use Rattle.std.specs.Str.Parse.{AllDigits, digits_value, ParsesUnsigned}
use Rattle.std.proofs.lemmas.Fmt.{decimal_is_IsNumeral, decimal_injective, decimal-digits_value, first_decimal, decimal_digit, parse-decimal}
use Rattle.std.proofs.lemmas.Str.Parse.{IsNumeralModel, numerals_by_value, tells_digits, parse_plain, digit_at}
use Rattle.hollow_top.specs.Words.{BeginsPlainly}

own : IsNumeralModel (AllDigits 10) (digits_value 10)
own = numerals_by_value (AllDigits 10) tells_digits

zero_alone : (n : ℕ) → n < 2 ^ 64 → get_or (decimal n) 0 0 ≡ 48 → length (decimal n) ≡ 1
zero_alone zero fits first = ap length (decimal_digit 0 (lit< tt))
zero_alone (suc n) fits first = absurd (omega (arith, first_decimal (suc n) (omega arith) fits))

-- a number in decimal begins so
pub decimal_begins : (n : ℕ) (text : List ℕ) → n < 2 ^ 64 → decimal n ≡ text → BeginsPlainly text
decimal_begins n text fits e =
    let numeral = decimal_is_IsNumeral n fits in
    let digit = digit_at (decimal n) 0 numeral.0.1 numeral.0.0 in
    let here : BeginsPlainly (decimal n) = record { some = numeral.0.0; unsigned = digit.0; no_zeros = zero_alone n fits } in
    subst BeginsPlainly e here

-- What parsing a text without sign or leading zeros says of the numbers that it may spell.
abbrev pub TellsDecimal : List ℕ → Option ℕ → Type 0
TellsDecimal text None = (n : ℕ) → n < 2 ^ 32 → decimal n ≢ text
TellsDecimal text (Some n) = decimal n ≡ text

told : {E : Type 0} (text : List ℕ) (parsed : Result ℕ E) → ParsesUnsigned 32 10 text parsed → BeginsPlainly text → TellsDecimal text (result_ok parsed)
told {E} text (Err e) parses plain = λ n small is.
    let found : Err e ≡ Ok n = parse-decimal {E = E} 32 n text (Err e) small (omega arith) (sym is) parses in
    absurd cc
told {E} text (Ok n) parses plain =
    let given = parse_plain own {E = E} 32 text (Ok n) parses (omega (arith, plain.unsigned)) in
    ap decimal given.1 ∙ decimal-digits_value own text given.0.0 given.0.1 plain.no_zeros (omega (arith, given.0.2))

-- parsing tells the number
pub parse_tells : {E : Type 0} (text : List ℕ) (parsed : Result ℕ E) (number : Option ℕ) → ParsesUnsigned 32 10 text parsed → BeginsPlainly text →
    number ≡ result_ok parsed → TellsDecimal text number
parse_tells {E} text parsed number parses plain is = subst (TellsDecimal text) (sym is) (told {E = E} text parsed parses plain)

-- two numbers with one text are one
pub same_number : (text : List ℕ) (m n : ℕ) → m < 2 ^ 32 → n < 2 ^ 32 → decimal m ≡ text → decimal n ≡ text → m ≡ n
same_number text m n small fits a b = decimal_injective m n (omega arith) (omega arith) (a ∙ sym b)
