-- Numbers and texts are spelled by bytes.
use Rattle.std.proofs.Common.{◌<◌, ◌+◌, ◌-◌, ◌*◌, ◌/◌, ◌%◌, ◌^◌, ℕ, zero, suc, List, [], ◌∷◌, ◌++◌, length, Bool, true, false, if◌then◌else◌, inl, inr, sym, subst, arith}
use Rattle.std.specs.Prelude.{All, decimal, flat_map, nat_lt, ◌==◌}
use Rattle.std.specs.Fmt.{digit_glyph, digits, digits_onto}
use Rattle.std.specs.Int.{Width, byte_at, byte_len, bytes_high_first, to_be_bytes}
use Rattle.std.specs.Str.{IsUtf8}
use Rattle.std.proofs.lemmas.Bool.{cases_lt}
use Rattle.std.proofs.lemmas.List.Elements.{All-append, All-cons, All-head, All-nil, All-tail}
use Rattle.hol_varint.specs.JavaUtf.{java_bytes, unit_bytes, utf_bytes}
use Rattle.hol_varint.specs.TextUnits.{AreUnits, text_units, units_bytes}
use Rattle.hol_varint.specs.Varint.{SpellsOn, varint_bytes}
use Rattle.hol_varint.proofs.Characters.{text_units-are}
use Rattle.hol_varint.proofs.JavaUnits.{bytes_middle, bytes_null, bytes_one, bytes_three}
use Rattle.hol_varint.proofs.VarWriting.{varint_is}
use Rattle.ordinal_set.specs.Gaps.{gap_bytes_after}
use Rattle.blob_grammar.specs.Decided.{AreBytes}

-- ---- lists of bytes

pub no_bytes : AreBytes []
no_bytes = All-nil (λ byte. byte < 256)

pub byte_then : (byte : ℕ) (bytes : List ℕ) → byte < 256 → AreBytes bytes → AreBytes (byte ∷ bytes)
byte_then byte bytes small rest = All-cons (λ b. b < 256) byte bytes small rest

pub one_behind : (xs ys : List ℕ) → AreBytes xs → AreBytes ys → AreBytes (xs ++ ys)
one_behind xs ys first second = All-append (λ byte. byte < 256) xs ys first second

-- the bytes of each of some things
pub bytes_of_each : {A : Type 0} (spelled : A → List ℕ) (xs : List A) → All (λ x. AreBytes (spelled x)) xs → AreBytes (flat_map spelled xs)
bytes_of_each spelled [] each = no_bytes
bytes_of_each {A} spelled (x ∷ xs) each =
    let P : A → Type 0 = λ y. AreBytes (spelled y) in
    one_behind (spelled x) (flat_map spelled xs) (All-head P x xs each) (bytes_of_each spelled xs (All-tail P x xs each))

pub bytes_of_all : {A : Type 0} (spelled : A → List ℕ) (xs : List A) → ((x : A) → AreBytes (spelled x)) → AreBytes (flat_map spelled xs)
bytes_of_all spelled [] each = no_bytes
bytes_of_all spelled (x ∷ xs) each = one_behind (spelled x) (flat_map spelled xs) (each x) (bytes_of_all spelled xs each)

-- ---- numbers

spelled_on : (high : ℕ) (bytes : List ℕ) (number : ℕ) → SpellsOn high bytes number → AreBytes bytes
spelled_on high [] number spells = absurd spells
spelled_on high (b ∷ []) number spells = byte_then b [] (omega (arith, spells.0)) no_bytes
spelled_on high (b ∷ c ∷ bs) number spells = byte_then b (c ∷ bs) spells.1 (spelled_on (high * 128 + (b - 128)) (c ∷ bs) number spells.2)

-- a number of variable length
pub varint_are : (number : ℕ) → AreBytes (varint_bytes number)
varint_are number = spelled_on 0 (varint_bytes number) number (varint_is number).groups

-- the units of a STRING
pub units_are : (units : List ℕ) → AreBytes (units_bytes units)
units_are units = bytes_of_all varint_bytes units varint_are

-- the gaps of a list
pub gaps_are : (before : ℕ) (numbers : List ℕ) → AreBytes (gap_bytes_after before numbers)
unfolding gap_bytes_after
gaps_are before [] = no_bytes
gaps_are before (number ∷ rest) = one_behind _ (gap_bytes_after number rest) (varint_are _) (gaps_are number rest)

small_byte : (place number : ℕ) → byte_at place number < 256
small_byte zero number = omega arith
small_byte (suc place) number = omega arith

high_first_are : (count number : ℕ) → AreBytes (bytes_high_first count number)
high_first_are zero number = no_bytes
high_first_are (suc count) number = byte_then (byte_at count number) (bytes_high_first count number) (small_byte count number) (high_first_are count number)

-- a number of a fixed size
pub fixed_are : (w : Width) (number : ℕ) → AreBytes (to_be_bytes w number)
fixed_are w number = high_first_are (byte_len w) number

-- ---- a number in decimal

digit_small : (digit : ℕ) → digit < 10 → digit_glyph false digit < 256
digit_small digit small = of_test (nat_lt digit 10)
  where
    of_test : (test : Bool) → (if test then 48 + digit else 87 + digit) < 256
    of_test true = omega (arith, small)
    of_test false = omega (arith, small)

digits_are : (count number : ℕ) (behind : List ℕ) → AreBytes behind → AreBytes (digits_onto count 10 false number behind)
digits_are zero number behind are = are
digits_are (suc count) number behind are =
    let more = byte_then (digit_glyph false (number % 10)) behind (digit_small (number % 10) (omega arith)) are in
    elim (number / 10 == 0) as (λ (last : Bool). AreBytes (if last then digit_glyph false (number % 10) ∷ behind else digits_onto count 10 false (number / 10) (digit_glyph false (number % 10) ∷ behind))) [
      | true ↦ more
      | false ↦ digits_are count (number / 10) (digit_glyph false (number % 10) ∷ behind) more
    ]

pub decimal_are : (number : ℕ) → AreBytes (decimal number)
unfolding digits
decimal_are number = digits_are 64 number [] no_bytes

-- ---- texts

unit_are : (unit : ℕ) → unit < 2 ^ 16 → AreBytes (unit_bytes unit)
unit_are unit small = elim (cases_lt 0 unit) [
  | inr none ↦ subst AreBytes (sym (bytes_null unit (omega (arith, none)))) (byte_then 0xC0 (0x80 ∷ []) (omega arith) (byte_then 0x80 [] (omega arith) no_bytes))
  | inl some ↦ elim (cases_lt unit 0x80) [
    | inl one ↦ subst AreBytes (sym (bytes_one unit some one)) (byte_then unit [] (omega (arith, one)) no_bytes)
    | inr more ↦ elim (cases_lt unit 0x800) [
      | inl two ↦ subst AreBytes (sym (bytes_middle unit more two)) (byte_then (0xC0 + unit / 64) ((0x80 + unit % 64) ∷ []) (omega (arith, two)) (byte_then (0x80 + unit % 64) [] (omega arith) no_bytes))
      | inr three ↦ subst AreBytes (sym (bytes_three unit three)) (byte_then (0xE0 + unit / 4096) ((0x80 + unit / 64 % 64) ∷ (0x80 + unit % 64) ∷ []) (omega (arith, small)) (byte_then (0x80 + unit / 64 % 64) ((0x80 + unit % 64) ∷ []) (omega arith) (byte_then (0x80 + unit % 64) [] (omega arith) no_bytes)))
    ]
  ]
]

java_are : (units : List ℕ) → AreUnits units → AreBytes (java_bytes units)
java_are [] are = no_bytes
java_are (unit ∷ units) are =
    one_behind (unit_bytes unit) (java_bytes units) (unit_are unit (All-head (λ u. u < 2 ^ 16) unit units are)) (java_are units (All-tail (λ u. u < 2 ^ 16) unit units are))

-- a text with its length before it
pub utf_are : (units : List ℕ) → AreUnits units → length (java_bytes units) < 2 ^ 16 → AreBytes (utf_bytes units)
unfolding utf_bytes
utf_are units are short =
    let size = length (java_bytes units) in
    byte_then (size / 256) (size % 256 ∷ java_bytes units) (omega (arith, short)) (byte_then (size % 256) (java_bytes units) (omega arith) (java_are units are))

-- a name
pub text_are : (text : List ℕ) → IsUtf8 text → length (java_bytes (text_units text)) < 2 ^ 16 → AreBytes (utf_bytes (text_units text))
text_are text utf8 short = utf_are (text_units text) (text_units-are text utf8) short
