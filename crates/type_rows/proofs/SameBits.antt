-- The same bits in two arrays of words: what lies within them is the same, and so are two runs of them behind one another.
use Rattle.std.proofs.Common.{◌≡◌, ℕ, zero, suc, ◌+◌, ◌*◌, ◌/◌, ◌%◌, ◌^◌, ◌<◌, ◌≤◌, List, ◌∷◌, map, refl, sym, ap, ◌∙◌, subst, arith, mul-le-mul_right}
use Rattle.std.specs.List.{range_with_len}
use Rattle.std.proofs.lemmas.Nat.{mod-pow-add, shr-shr}
use Rattle.bit_array.specs.Element.{number_of, element_of}
use Rattle.bit_array.proofs.Elements.{field_within}
use Rattle.type_rows.specs.SameBits.{SameBits}

-- An element that lies within some bits is a run of these.
element_within : (words : List ℕ) (at bits start width : ℕ) → start + width ≤ bits → element_of words (at + start) width ≡ element_of words at bits / 2 ^ start % 2 ^ width
unfolding element_of
element_within words at bits start width within =
    ap (λ n. n % 2 ^ width) (sym (shr-shr (number_of words) at start)) ∙ field_within (number_of words / 2 ^ at) bits start width within

pub bits_within : (words others : List ℕ) (at there bits start width : ℕ) → start + width ≤ bits → SameBits words at others there bits → SameBits words (at + start) others (there + start) width
bits_within words others at there bits start width within same =
    element_within others there bits start width within ∙ ap (λ n. n / 2 ^ start % 2 ^ width) same ∙ sym (element_within words at bits start width within)

-- Two elements side by side as one.
element_of_both : (words : List ℕ) (at low high : ℕ) → element_of words at (low + high) ≡ element_of words (at + low) high * 2 ^ low + element_of words at low
unfolding element_of
element_of_both words at low high =
    let turned : low + high ≡ high + low = omega arith in
    ap (λ k. number_of words / 2 ^ at % 2 ^ k) turned
    ∙ mod-pow-add (number_of words / 2 ^ at) high low
    ∙ ap (λ k. k % 2 ^ high * 2 ^ low + number_of words / 2 ^ at % 2 ^ low) (shr-shr (number_of words) at low)

pub bits_joined : (words others : List ℕ) (at there low high : ℕ) → SameBits words at others there low → SameBits words (at + low) others (there + low) high → SameBits words at others there (low + high)
bits_joined words others at there low high first second =
    element_of_both others there low high
    ∙ ap (λ e. e * 2 ^ low + element_of others there low) second
    ∙ ap (λ e. element_of words (at + low) high * 2 ^ low + e) first
    ∙ sym (element_of_both words at low high)

-- The bits of the item at an index among so many items of a width.
pub item_bits : (words others : List ℕ) (from to count width index before bits : ℕ) → index < count → before + bits ≤ width → SameBits words (from * width) others (to * width) (count * width)
    → element_of others ((to + index) * width + before) bits ≡ element_of words ((from + index) * width + before) bits
item_bits words others from to count width index before bits inside within same =
    let up : (index + 1) * width ≤ count * width = mul-le-mul_right width (let l : index + 1 ≤ count = omega arith in l) in
    let here : (from + index) * width + before ≡ from * width + (index * width + before) = omega arith in
    let there : (to + index) * width + before ≡ to * width + (index * width + before) = omega arith in
    ap (λ k. element_of others k bits) there
    ∙ bits_within words others (from * width) (to * width) (count * width) (index * width + before) bits (omega arith) same
    ∙ ap (λ k. element_of words k bits) (sym here)

-- The same at its front, and of the whole item.
pub item_front : (words others : List ℕ) (from to count width index bits : ℕ) → index < count → bits ≤ width → SameBits words (from * width) others (to * width) (count * width)
    → element_of others ((to + index) * width) bits ≡ element_of words ((from + index) * width) bits
item_front words others from to count width index bits inside within same =
    let here : (from + index) * width + 0 ≡ (from + index) * width = omega arith in
    let there : (to + index) * width + 0 ≡ (to + index) * width = omega arith in
    ap (λ k. element_of others k bits) (sym there) ∙ item_bits words others from to count width index 0 bits inside (omega arith) same ∙ ap (λ k. element_of words k bits) here

pub item_same : (words others : List ℕ) (from to count width index : ℕ) → index < count → SameBits words (from * width) others (to * width) (count * width)
    → element_of others ((to + index) * width) width ≡ element_of words ((from + index) * width) width
item_same words others from to count width index inside same = item_front words others from to count width index width inside (omega arith) same

-- What is made of so many indices is the same where it is at each of them.
pub same_items : {X : Type 0} (one other : ℕ → X) (from to count : ℕ) → ((index : ℕ) → index < count → other (to + index) ≡ one (from + index)) → map other (range_with_len to count) ≡ map one (range_with_len from count)
same_items one other from to zero same = refl
same_items one other from to (suc count) same =
    let first : other to ≡ one from = subst (λ n. other n ≡ one (from + 0)) {x = to + 0} {y = to} (omega arith) (same 0 (omega arith)) ∙ ap one (let e : from + 0 ≡ from = omega arith in e) in
    let rest = same_items one other (from + 1) (to + 1) count (λ index below.
    subst (λ n. other n ≡ one ((from + 1) + index)) {x = to + suc index} {y = (to + 1) + index} (omega arith)
    (subst (λ n. other (to + suc index) ≡ one n) {x = from + suc index} {y = (from + 1) + index} (omega arith) (same (suc index) (omega arith)))) in
    λ i. first i ∷ rest i
