-- The JSON text of a value has no byte 0A, so that with one behind it it is one line.
use Rattle.std.proofs.Common.{◌≡◌, ◌≢◌, ℕ, zero, suc, ◌+◌, ◌/◌, ◌%◌, ◌==◌, Bool, true, false, nat_lt, ◌||◌, List, [], ◌∷◌, ◌++◌, pos, negsuc, sym, subst, arith, inl, inr, ◌⊎◌, if◌then◌else◌}
use Rattle.std.specs.Char.{digit_char}
use Rattle.std.specs.Fmt.{decimal, digit_glyph, digits, digits_onto}
use Rattle.std.specs.List.{flat_map}
use Rattle.std.proofs.lemmas.Bool.{cases_eq}
use Rattle.std.proofs.lemmas.List.Elements.{All-append, All-cons, All-nil}
use Rattle.json.specs.Print.{escape, escape_byte, escape_letter, quoted}
use Rattle.serde_json.specs.Data.{Num, unsigned, negative, float, Data, null, boolean, number, string, array, object, Items, no_items, item, Members, no_members, member}
use Rattle.serde_json.specs.Written.{comma_if, compact_text, items_text, members_text, number_text}
use Rattle.hol_io.specs.Lines.{IsOnePiece}

none : IsOnePiece []
none = All-nil (λ byte. byte ≢ 10)

more : (byte : ℕ) (bytes : List ℕ) → byte ≢ 10 → IsOnePiece bytes → IsOnePiece (byte ∷ bytes)
more = All-cons (λ byte. byte ≢ 10)

both : (xs ys : List ℕ) → IsOnePiece xs → IsOnePiece ys → IsOnePiece (xs ++ ys)
both = All-append (λ byte. byte ≢ 10)

chosen : (b : Bool) (xs ys : List ℕ) → IsOnePiece xs → IsOnePiece ys → IsOnePiece (if b then xs else ys)
chosen true xs ys one other = one
chosen false xs ys one other = other

chosen_byte : (b : Bool) (x y : ℕ) → x ≢ 10 → y ≢ 10 → (if b then x else y) ≢ 10
chosen_byte true x y one other = one
chosen_byte false x y one other = other

-- numbers
glyph_other : (d : ℕ) → digit_glyph false d ≢ 10
glyph_other d = chosen_byte (nat_lt d 10) (48 + d) (87 + d) (λ e. omega (arith, e)) (λ e. omega (arith, e))

digits_piece : (k n : ℕ) (behind : List ℕ) → IsOnePiece behind → IsOnePiece (digits_onto k 10 false n behind)
digits_piece zero n behind one = one
digits_piece (suc k) n behind one =
    let longer = more (digit_glyph false (n % 10)) behind (glyph_other (n % 10)) one in
    chosen (n / 10 == 0) (digit_glyph false (n % 10) ∷ behind) (digits_onto k 10 false (n / 10) (digit_glyph false (n % 10) ∷ behind)) longer
    (digits_piece k (n / 10) (digit_glyph false (n % 10) ∷ behind) longer)

decimal_piece : (n : ℕ) → IsOnePiece (decimal n)
unfolding digits
decimal_piece n = digits_piece 64 n [] none

number_piece : (n : Num) → IsOnePiece (number_text n)
number_piece (unsigned n) = decimal_piece n
number_piece (negative (pos n)) = decimal_piece n
number_piece (negative (negsuc n)) = more 45 (decimal (suc n)) (λ e. omega (arith, e)) (decimal_piece (suc n))
number_piece (float x) = none

-- texts
two : (x y : ℕ) → x ≢ 10 → y ≢ 10 → IsOnePiece (x ∷ y ∷ [])
two x y one other = more x (y ∷ []) one (more y [] other none)

letter_other : (x : ℕ) → x ≢ 10 → escape_letter x ≢ 10
letter_other x other =
    chosen_byte ((x == 34) || (x == 92)) x _ other
    (chosen_byte (x == 8) 98 _ (λ e. omega (arith, e))
    (chosen_byte (x == 12) 102 _ (λ e. omega (arith, e))
    (chosen_byte (x == 10) 110 _ (λ e. omega (arith, e))
    (chosen_byte (x == 13) 114 _ (λ e. omega (arith, e))
    (chosen_byte (x == 9) 116 0 (λ e. omega (arith, e)) (λ e. omega (arith, e)))))))

-- how a control byte is escaped
abbrev control : ℕ → List ℕ
control x = 92 ∷ 117 ∷ 48 ∷ 48 ∷ digit_char (x / 16) ∷ digit_char (x % 16) ∷ []

char_other : (d : ℕ) → digit_char d ≢ 10
char_other d = chosen_byte (nat_lt d 10) (48 + d) (87 + d) (λ e. omega (arith, e)) (λ e. omega (arith, e))

control_piece : (x : ℕ) → IsOnePiece (control x)
control_piece x =
    let last = two (digit_char (x / 16)) (digit_char (x % 16)) (char_other (x / 16)) (char_other (x % 16)) in
    let third = more 48 (digit_char (x / 16) ∷ digit_char (x % 16) ∷ []) (λ e. omega (arith, e)) last in
    let second = more 48 (48 ∷ digit_char (x / 16) ∷ digit_char (x % 16) ∷ []) (λ e. omega (arith, e)) third in
    let first = more 117 (48 ∷ 48 ∷ digit_char (x / 16) ∷ digit_char (x % 16) ∷ []) (λ e. omega (arith, e)) second in
    more 92 (117 ∷ 48 ∷ 48 ∷ digit_char (x / 16) ∷ digit_char (x % 16) ∷ []) (λ e. omega (arith, e)) first

byte_piece : (x : ℕ) → IsOnePiece (escape_byte x)
unfolding escape_byte
byte_piece x = go (cases_eq x 10)
  where
    go : (x ≡ 10) ⊎ (x ≡ 10 → ⊥) → IsOnePiece (escape_byte x)
    go (inl is) = subst (λ byte. IsOnePiece (escape_byte byte)) (sym is) (two 92 110 (λ e. omega (arith, e)) (λ e. omega (arith, e)))
    go (inr other) =
        chosen (nat_lt 0 (escape_letter x)) (92 ∷ escape_letter x ∷ []) (if nat_lt x 32 then control x else x ∷ []) (two 92 (escape_letter x) (λ e. omega (arith, e)) (letter_other x other))
        (chosen (nat_lt x 32) (control x) (x ∷ []) (control_piece x) (more x [] other none))

escape_piece : (text : List ℕ) → IsOnePiece (escape text)
escape_piece [] = none
escape_piece (x ∷ xs) = both (escape_byte x) (flat_map escape_byte xs) (byte_piece x) (escape_piece xs)

quoted_piece : (text : List ℕ) → IsOnePiece (quoted text)
quoted_piece text = more 34 (escape text ++ 34 ∷ []) (λ e. omega (arith, e)) (both (escape text) (34 ∷ []) (escape_piece text) (more 34 [] (λ e. omega (arith, e)) none))

comma_piece : (later : Bool) → IsOnePiece (comma_if later)
comma_piece true = more 44 [] (λ e. omega (arith, e)) none
comma_piece false = none

-- and so the text of a value
mutual
  pub json_piece : (d : Data) → IsOnePiece (compact_text d)
  json_piece null = more 110 (117 ∷ 108 ∷ 108 ∷ []) (λ e. omega (arith, e)) (more 117 (108 ∷ 108 ∷ []) (λ e. omega (arith, e)) (two 108 108 (λ e. omega (arith, e)) (λ e. omega (arith, e))))
  json_piece (boolean true) = more 116 (114 ∷ 117 ∷ 101 ∷ []) (λ e. omega (arith, e)) (more 114 (117 ∷ 101 ∷ []) (λ e. omega (arith, e)) (two 117 101 (λ e. omega (arith, e)) (λ e. omega (arith, e))))
  json_piece (boolean false) = more 102 (97 ∷ 108 ∷ 115 ∷ 101 ∷ []) (λ e. omega (arith, e)) (more 97 (108 ∷ 115 ∷ 101 ∷ []) (λ e. omega (arith, e)) (more 108 (115 ∷ 101 ∷ []) (λ e. omega (arith, e)) (two 115 101 (λ e. omega (arith, e)) (λ e. omega (arith, e)))))
  json_piece (number n) = number_piece n
  json_piece (string s) = quoted_piece s
  json_piece (array ds) = more 91 (items_text false ds) (λ e. omega (arith, e)) (items_piece false ds)
  json_piece (object ms) = more 123 (members_text false ms) (λ e. omega (arith, e)) (members_piece false ms)

  items_piece : (later : Bool) (ds : Items) → IsOnePiece (items_text later ds)
  items_piece later no_items = more 93 [] (λ e. omega (arith, e)) none
  items_piece later (item d ds) = both (comma_if later) (compact_text d ++ items_text true ds) (comma_piece later) (both (compact_text d) (items_text true ds) (json_piece d) (items_piece true ds))

  members_piece : (later : Bool) (ms : Members) → IsOnePiece (members_text later ms)
  members_piece later no_members = more 125 [] (λ e. omega (arith, e)) none
  members_piece later (member k d ms) =
      both (comma_if later) (quoted k ++ 58 ∷ (compact_text d ++ members_text true ms)) (comma_piece later)
      (both (quoted k) (58 ∷ (compact_text d ++ members_text true ms)) (quoted_piece k)
      (more 58 (compact_text d ++ members_text true ms) (λ e. omega (arith, e)) (both (compact_text d) (members_text true ms) (json_piece d) (members_piece true ms))))
