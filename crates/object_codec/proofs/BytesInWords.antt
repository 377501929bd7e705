-- Lemmas on bytes that stand in words.
use Rattle.std.proofs.Common.{◌≡◌, ℕ, zero, suc, ◌+◌, ◌-◌, ◌*◌, ◌^◌, ◌<◌, ◌≤◌, List, [], ◌∷◌, ◌++◌, length, take, drop, get_or, map, refl, sym, ap, ◌∙◌, subst, append_assoc, arith}
use Rattle.std.specs.List.{range_with_len}
use Rattle.std.proofs.lemmas.List.FromFn.{take-map-range_with_len, get_or-map-range_with_len, length-map-range_with_len}
use Rattle.std.proofs.lemmas.List.{take_more, take_all}
use Rattle.bit_array.specs.Element.{element_of}
use Rattle.bit_array.proofs.Elements.{element_of-lt}
use Rattle.object_codec.specs.Bytes.{bytes_in}

drop_range : {X : Type 0} (f : ℕ → X) (from count less : ℕ) → less ≤ count → drop less (map f (range_with_len from count)) ≡ map f (range_with_len (from + less) (count - less))
drop_range f from count zero h =
    let e : from ≡ from + 0 = omega arith in
    let g : count ≡ count - 0 = omega arith in
    ap (λ k. map f (range_with_len k count)) e ∙ ap (λ k. map f (range_with_len (from + 0) k)) g
drop_range f from zero (suc less) h = absurd (omega arith)
drop_range f from (suc count) (suc less) h =
    let e : from + 1 + less ≡ from + suc less = omega arith in
    let g : count - less ≡ suc count - suc less = omega arith in
    drop_range f (from + 1) count less (omega arith)
    ∙ ap (λ k. map f (range_with_len k (count - less))) e ∙ ap (λ k. map f (range_with_len (from + suc less) k)) g

-- the bytes from one place up to another
pub bytes_between : (words : List ℕ) (from len start end : ℕ) → start ≤ end → end ≤ len
    → bytes_in words (from + start) (end - start) ≡ take (end - start) (drop start (bytes_in words from len))
bytes_between words from len start end rises within =
    let f = λ (index : ℕ). element_of words (index * 8) 8 in
    sym (ap (take (end - start)) (drop_range f from len start (omega arith)) ∙ take-map-range_with_len f (from + start) (len - start) (end - start) (omega arith))

-- the byte at a place
pub byte_is : (words : List ℕ) (from len at : ℕ) → at < len → element_of words ((from + at) * 8) 8 ≡ get_or (bytes_in words from len) at 0
byte_is words from len at inside = sym (get_or-map-range_with_len (λ index. element_of words (index * 8) 8) from len at (from + at) 0 inside refl)

pub byte_below : (words : List ℕ) (at byte : ℕ) → byte ≡ element_of words at 8 → byte < 2 ^ 8
byte_below words at byte is = subst (λ b. b < 2 ^ 8) (sym is) (element_of-lt words at 8)

pub bytes_long : (words : List ℕ) (start len : ℕ) → length (bytes_in words start len) ≡ len
bytes_long words start len = length-map-range_with_len (λ index. element_of words (index * 8) 8) start len

-- a byte more is put
pub put_more : (out old new bytes : List ℕ) (at byte : ℕ) → at < length bytes → byte ≡ get_or bytes at 0 → old ≡ out ++ take at bytes → new ≡ old ++ byte ∷ [] → new ≡ out ++ take (at + 1) bytes
put_more out old new bytes at byte inside is so_far pushed =
    pushed
    ∙ ap (λ xs. xs ++ byte ∷ []) so_far
    ∙ append_assoc out (take at bytes) (byte ∷ [])
    ∙ ap (λ xs. out ++ xs) (ap (λ b. take at bytes ++ b ∷ []) is ∙ sym (take_more bytes at 0 inside))

-- all bytes are put
pub put_all : (out old bytes : List ℕ) (at : ℕ) → length bytes ≤ at → old ≡ out ++ take at bytes → old ≡ out ++ bytes
put_all out old bytes at past so_far = so_far ∙ ap (λ xs. out ++ xs) (take_all at bytes past)
