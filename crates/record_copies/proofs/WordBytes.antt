-- Lemmas on bytes that stand in words, written eight at a time.
use Rattle.std.proofs.Common.{◌≡◌, ℕ, ◌+◌, ◌-◌, ◌*◌, ◌/◌, ◌%◌, ◌^◌, ◌<◌, ◌≤◌, List, ◌++◌, length, take, drop, get_or, refl, sym, ap, ◌∙◌, subst, append_assoc, arith, inl, inr, Result, Ok, Err, OnOk}
use Rattle.std.specs.Int.{from_le_bytes, to_le_bytes, w64}
use Rattle.std.proofs.lemmas.Bool.{cases_lt}
use Rattle.std.proofs.lemmas.List.{drop-take, get_or_past, take-append-drop, take-take, take_all}
use Rattle.std.proofs.lemmas.Nat.{le_bytes_8}
use Rattle.bit_array.specs.Element.{element_of, number_of}
use Rattle.bit_array.proofs.Blocks.{two_fields}
use Rattle.object_codec.specs.Bytes.{bytes_in}
use Rattle.object_codec.proofs.BytesInWords.{byte_below, byte_is, bytes_between, bytes_long}

-- the lowest byte of an element, and those above it
low_byte : (words : List ℕ) (at above byte next : ℕ) → next ≡ at + 8 → byte ≡ at → element_of words at (8 + above) ≡ element_of words next above * 2 ^ 8 + element_of words byte 8
unfolding element_of
low_byte words at above byte next is same =
    two_fields (number_of words) at 8 above
    ∙ ap (λ n. number_of words / 2 ^ n % 2 ^ above * 2 ^ 8 + number_of words / 2 ^ at % 2 ^ 8) (sym is)
    ∙ ap (λ n. number_of words / 2 ^ next % 2 ^ above * 2 ^ 8 + number_of words / 2 ^ n % 2 ^ 8) (sym same)

-- a word of bytes is made of them
word_is : (words : List ℕ) (first at word : ℕ) → at ≡ 8 * first → word ≡ element_of words at 64 → word ≡ from_le_bytes w64 (bytes_in words first 8)
word_is words first at word is read =
    let a = low_byte words at 56 (first * 8) (8 * first + 8) (omega arith) (omega arith) in
    let b = low_byte words (8 * first + 8) 48 ((first + 1) * 8) (8 * first + 16) (omega arith) (omega arith) in
    let c = low_byte words (8 * first + 16) 40 ((first + 1 + 1) * 8) (8 * first + 24) (omega arith) (omega arith) in
    let d = low_byte words (8 * first + 24) 32 ((first + 1 + 1 + 1) * 8) (8 * first + 32) (omega arith) (omega arith) in
    let e = low_byte words (8 * first + 32) 24 ((first + 1 + 1 + 1 + 1) * 8) (8 * first + 40) (omega arith) (omega arith) in
    let f = low_byte words (8 * first + 40) 16 ((first + 1 + 1 + 1 + 1 + 1) * 8) (8 * first + 48) (omega arith) (omega arith) in
    let g = low_byte words (8 * first + 48) 8 ((first + 1 + 1 + 1 + 1 + 1 + 1) * 8) (8 * first + 56) (omega arith) (omega arith) in
    let last : element_of words (8 * first + 56) 8 ≡ element_of words ((first + 1 + 1 + 1 + 1 + 1 + 1 + 1) * 8) 8 = ap (λ n. element_of words n 8) (let h : 8 * first + 56 ≡ (first + 1 + 1 + 1 + 1 + 1 + 1 + 1) * 8 = omega arith in h) in
    omega (arith, read, a, b, c, d, e, f, g, last)

-- each is below 256
bytes_below : (words : List ℕ) (first len i : ℕ) → get_or (bytes_in words first len) i 0 < 256
bytes_below words first len i =
    elim (cases_lt i len) [
      | inl inside ↦ byte_below words ((first + i) * 8) (get_or (bytes_in words first len) i 0) (sym (byte_is words first len i inside))
      | inr past ↦ subst (λ n. n < 256) (sym (get_or_past (bytes_in words first len) i 0 (omega (arith, past, bytes_long words first len)))) (omega arith)
    ]

-- the bytes of a word
pub word_bytes : (words : List ℕ) (start len at index word : ℕ) → 8 * index + 8 ≤ len → at ≡ 8 * (start + 8 * index) → word ≡ element_of words at 64
    → to_le_bytes w64 word ≡ take 8 (drop (8 * index) (bytes_in words start len))
word_bytes words start len at index word inside is read =
    let eight : 8 * index + 8 - 8 * index ≡ 8 = omega arith in
    le_bytes_8 (bytes_in words (start + 8 * index) 8) word refl (bytes_below words (start + 8 * index) 8) (word_is words (start + 8 * index) at word is read)
    ∙ subst (λ n. bytes_in words (start + 8 * index) n ≡ take n (drop (8 * index) (bytes_in words start len))) eight (bytes_between words start len (8 * index) (8 * index + 8) (omega arith) inside)

pub take_both : {X : Type 0} (a b : ℕ) (xs : List X) → take (a + b) xs ≡ take a xs ++ take b (drop a xs)
take_both a b xs =
    sym (take-append-drop a (take (a + b) xs))
    ∙ ap (λ ys. ys ++ drop a (take (a + b) xs)) (take-take a (a + b) xs (omega arith))
    ∙ ap (λ ys. take a xs ++ ys) (drop-take a b xs)

-- eight bytes more are put
pub eight_more : (out old new bytes more : List ℕ) (index : ℕ) → old ≡ out ++ take (8 * index) bytes → more ≡ take 8 (drop (8 * index) bytes) → new ≡ old ++ more → new ≡ out ++ take (8 * (index + 1)) bytes
eight_more out old new bytes more index so_far is pushed =
    let next : 8 * index + 8 ≡ 8 * (index + 1) = omega arith in
    pushed
    ∙ ap (λ xs. xs ++ more) so_far
    ∙ ap (λ xs. (out ++ take (8 * index) bytes) ++ xs) is
    ∙ append_assoc out (take (8 * index) bytes) (take 8 (drop (8 * index) bytes))
    ∙ ap (λ xs. out ++ xs) (sym (take_both (8 * index) 8 bytes) ∙ ap (λ n. take n bytes) next)

-- the others are put
rest_put : (out old new bytes more : List ℕ) (index len : ℕ) → old ≡ out ++ take (8 * index) bytes → more ≡ take (len - 8 * index) (drop (8 * index) bytes) → 8 * index ≤ len → len ≡ length bytes → new ≡ old ++ more
    → new ≡ out ++ bytes
rest_put out old new bytes more index len so_far is inside long pushed =
    let whole : 8 * index + (len - 8 * index) ≡ len = omega arith in
    pushed
    ∙ ap (λ xs. xs ++ more) so_far
    ∙ ap (λ xs. (out ++ take (8 * index) bytes) ++ xs) is
    ∙ append_assoc out (take (8 * index) bytes) (take (len - 8 * index) (drop (8 * index) bytes))
    ∙ ap (λ xs. out ++ xs) (sym (take_both (8 * index) (len - 8 * index) bytes) ∙ ap (λ n. take n bytes) whole ∙ take_all len bytes (omega (arith, long)))

-- the same of the answer
pub on_put : {E : Type 0} (result : Result (Unit {0}) E) (out old new bytes more : List ℕ) (index len : ℕ) → old ≡ out ++ take (8 * index) bytes → more ≡ take (len - 8 * index) (drop (8 * index) bytes) → 8 * index ≤ len
    → len ≡ length bytes → OnOk result (new ≡ old ++ more) → OnOk result (new ≡ out ++ bytes)
on_put (Ok done) out old new bytes more index len so_far is inside long pushed = rest_put out old new bytes more index len so_far is inside long pushed
on_put (Err error) out old new bytes more index len so_far is inside long pushed = pushed
