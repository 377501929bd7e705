-- Bytes that are read from the front of those that are left.
use Rattle.std.proofs.Common.{◌≡◌, ℕ, ◌+◌, ◌-◌, ◌<◌, ◌≤◌, min, List, [], ◌++◌, length, take, drop, ap, sym, ◌∙◌, arith}
use Rattle.std.proofs.lemmas.List.{take-take, drop-drop, take-append-drop, length-take, length-drop, nil_from_length}

-- What stands at the front of the buffer, and the rest of what was left, are what was left.
front_taken : (left buf : List ℕ) (most count : ℕ) → count ≤ most → take count buf ≡ take count (take most left) → left ≡ take count buf ++ drop count left
front_taken left buf most count within placed =
    sym (take-append-drop count left) ∙ ap (λ t. t ++ drop count left) (sym (placed ∙ take-take count most left within))

-- A source gives as many bytes as are left, as fit and as one call may give.
pub gives_count : (bytes : List ℕ) (at piece room count most : ℕ) → at ≤ length bytes → most ≡ min piece (length bytes - at) → count ≡ min room (length (take (at + most - at) (drop at bytes))) → count ≡ min room (min piece (length (drop at bytes)))
gives_count bytes at piece room count most inside is counted =
    omega (arith, length-take (at + most - at) (drop at bytes), length-drop at bytes)

-- They are the front of those that are left, and there are none only where none is left.
gives_front : (bytes buf : List ℕ) (at piece count most : ℕ) → at ≤ length bytes → 1 ≤ piece → most ≡ min piece (length bytes - at) → count ≡ min (length buf) (length (take (at + most - at) (drop at bytes))) → take count buf ≡ take count (take (at + most - at) (drop at bytes)) → (drop at bytes ≡ take count buf ++ drop (at + count) bytes) × (count ≡ 0 → 0 < length buf → drop (at + count) bytes ≡ [])
gives_front bytes buf at piece count most inside some is counted placed =
    let long = length-take (at + most - at) (drop at bytes) in
    let rest = length-drop at bytes in
    let within : count ≤ at + most - at = omega (arith, long) in
    let onward = drop-drop count at bytes in (
      front_taken (drop at bytes) buf (at + most - at) count within placed ∙ ap (λ t. take count buf ++ t) onward,
      λ none room. nil_from_length (drop (at + count) bytes) (omega (arith, long, rest, length-drop (at + count) bytes)),
    )

-- The same of a slice of the bytes that were left.
pub gives_left : (bytes lent left buf : List ℕ) (at piece count most : ℕ) → lent ≡ bytes → drop at bytes ≡ left → at ≤ length lent → 1 ≤ piece → most ≡ min piece (length lent - at) → count ≡ min (length buf) (length (take (at + most - at) (drop at lent))) → take count buf ≡ take count (take (at + most - at) (drop at lent)) → (left ≡ take count buf ++ drop (at + count) bytes) × (count ≡ 0 → 0 < length buf → drop (at + count) bytes ≡ [])
gives_left bytes lent left buf at piece count most same was inside some is counted placed =
    let front = gives_front lent buf at piece count most inside some is counted placed in (
      sym was ∙ ap (drop at) (sym same) ∙ front.0 ∙ ap (λ b. take count buf ++ drop (at + count) b) same,
      λ none room. ap (drop (at + count)) (sym same) ∙ front.1 none room,
    )
