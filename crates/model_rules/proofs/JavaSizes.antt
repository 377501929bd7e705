-- How many bytes of Java UTF a character and a text have.
use Rattle.std.proofs.Common.{◌≡◌, ℕ, ◌+◌, ◌-◌, ◌<◌, ◌≤◌, ◌∙◌, ap, List, [], ◌∷◌, ◌++◌, length, arith, ltb, ◌&&◌, false, length-append, ◌/◌, ◌%◌}
use Rattle.std.proofs.lemmas.Bool.{cond-true, cond-false, and_from, and_left, and_right, lt-ltb, le-ltb}
use Rattle.std.proofs.lemmas.Grind.{flat_map-append}
use Rattle.std.specs.List.{flat_map}
use Rattle.std.specs.Char.Escape.{encode_utf16}
use Rattle.hol_varint.specs.JavaUtf.{java_bytes, unit_bytes}
use Rattle.hol_varint.specs.TextUnits.{text_units}
use Rattle.std.proofs.lemmas.Str.{chars_past_char, chars-nil}
use Rattle.std.proofs.Math.Utf8.{encode}
use Rattle.std.specs.Str.{IsUtf8}

one_byte : (c : ℕ) → 0 < c → c < 128 → length (unit_bytes c) ≡ 1
unfolding unit_bytes
one_byte c low high = ap length (cond-true (ltb 0 c && ltb c 128) _ _ (and_from (ltb 0 c) (ltb c 128) (lt-ltb 0 c low) (lt-ltb c 128 high)))

two_bytes : (c : ℕ) → (ltb 0 c && ltb c 128) ≡ false → c < 2048 → length (unit_bytes c) ≡ 2
unfolding unit_bytes
two_bytes c other high = ap length (cond-false (ltb 0 c && ltb c 128) _ _ other) ∙ ap length (cond-true (ltb c 2048) _ _ (lt-ltb c 2048 high))

three_bytes : (c : ℕ) → 2048 ≤ c → length (unit_bytes c) ≡ 3
unfolding unit_bytes
three_bytes c low =
    ap length (cond-false (ltb 0 c && ltb c 128) _ _ (and_right (ltb 0 c) (ltb c 128) (le-ltb c 128 (omega arith))))
    ∙ ap length (cond-false (ltb c 2048) _ _ (le-ltb c 2048 low))

one_unit : (c : ℕ) → c < 65536 → length (java_bytes (encode_utf16 c)) ≡ length (unit_bytes c)
one_unit c high =
    ap (λ units. length (java_bytes units)) (cond-true (ltb c 65536) (c ∷ []) _ (lt-ltb c 65536 high))
    ∙ length-append (unit_bytes c) [] ∙ omega arith

-- the character 0
pub size_zero : (c : ℕ) → c ≡ 0 → length (java_bytes (encode_utf16 c)) ≡ 2
size_zero c e = one_unit c (omega arith) ∙ two_bytes c (and_left (ltb 0 c) (ltb c 128) (le-ltb 0 c (omega arith))) (omega arith)

pub size_one : (c : ℕ) → 0 < c → c < 128 → length (java_bytes (encode_utf16 c)) ≡ 1
size_one c low high = one_unit c (omega arith) ∙ one_byte c low high

pub size_two : (c : ℕ) → 128 ≤ c → c < 2048 → length (java_bytes (encode_utf16 c)) ≡ 2
size_two c low high = one_unit c (omega arith) ∙ two_bytes c (and_right (ltb 0 c) (ltb c 128) (le-ltb c 128 low)) high

pub size_three : (c : ℕ) → 2048 ≤ c → c < 65536 → length (java_bytes (encode_utf16 c)) ≡ 3
size_three c low high = one_unit c high ∙ three_bytes c low

-- a character of two units
pub size_six : (c : ℕ) → 65536 ≤ c → length (java_bytes (encode_utf16 c)) ≡ 6
size_six c low =
    let first = 0xD800 + (c - 0x1_0000) / 0x400 in
    let second = 0xDC00 + (c - 0x1_0000) % 0x400 in
    ap (λ units. length (java_bytes units)) (cond-false (ltb c 65536) (c ∷ []) (first ∷ second ∷ []) (le-ltb c 65536 low))
    ∙ length-append (unit_bytes first) (unit_bytes second ++ [])
    ∙ omega (arith, length-append (unit_bytes second) [], three_bytes first (omega arith), three_bytes second (omega arith))

-- how many bytes a text has
abbrev pub text_size : List ℕ → ℕ
text_size text = length (java_bytes (text_units text))

-- a text is its first character and the rest
pub size_step : (text rest : List ℕ) (c size total : ℕ) → IsUtf8 text → text ≡ encode c ++ rest → size + text_size text ≡ total → (size + length (java_bytes (encode_utf16 c))) + text_size rest ≡ total
size_step text rest c size total utf8 e sum =
    let units : text_units text ≡ encode_utf16 c ++ text_units rest = ap (flat_map encode_utf16) (chars_past_char text rest c utf8 e) in
    let bytes : java_bytes (text_units text) ≡ java_bytes (encode_utf16 c) ++ java_bytes (text_units rest) = ap java_bytes units ∙ flat_map-append unit_bytes (encode_utf16 c) (text_units rest) in
    let long : text_size text ≡ length (java_bytes (encode_utf16 c)) + text_size rest = ap length bytes ∙ length-append (java_bytes (encode_utf16 c)) (java_bytes (text_units rest)) in
    omega arith

-- an empty rest has no bytes
pub size_end : (rest : List ℕ) → length rest ≡ 0 → text_size rest ≡ 0
size_end [] e = ap (λ cs. length (java_bytes (flat_map encode_utf16 cs))) chars-nil
size_end (b ∷ bs) e = absurd (omega arith)
