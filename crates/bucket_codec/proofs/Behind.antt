-- Lemmas on the bits behind what is written, which stay, and on the values of empty buckets, which are 0.
use Rattle.std.proofs.Common.{◌≡◌, ◌≢◌, ℕ, ◌+◌, ◌*◌, ◌/◌, ◌%◌, ◌^◌, ◌<◌, ◌≤◌, ◌⊎◌, inr, List, None, Some, arith, sym, ap, ⊎_elim, ◌∙◌}
use Rattle.std.proofs.Math.Nat.{mod-eq_of_lt, div-lt_iff_lt-mul}
use Rattle.std.proofs.lemmas.Bool.{cases_order}
use Rattle.std.proofs.lemmas.Nat.{pow_pos}
use Rattle.bit_array.specs.Digits.{digit_count}
use Rattle.bit_array.specs.Element.{element_of, number_of}
use Rattle.bit_array.proofs.DigitCounts.{digit_count-holds}
use Rattle.bucket_codec.specs.Run.{bucket_in, value_in, IsZeroIfEmpty}
use Rattle.bucket_codec.specs.Filled.{KeepsBack}

pub back_both : (a b c : List ℕ) (first second limit : ℕ) → KeepsBack a b first → KeepsBack b c second → first ≤ limit → second ≤ limit → KeepsBack a c limit
back_both a b c first second limit h k p q = λ i v behind. k i v (omega arith) ∙ h i v (omega arith)

-- what is written into zeros has no bit behind
none_behind : (old new : List ℕ) (bits : ℕ) → number_of old ≡ 0 → KeepsBack old new bits → number_of new < 2 ^ bits
unfolding element_of
none_behind old new bits is kept =
    let high = number_of new / 2 ^ bits in
    let width = digit_count high in
    let some : 0 < 2 ^ bits = pow_pos bits in
    let same : high % 2 ^ width ≡ number_of old / 2 ^ bits % 2 ^ width = kept bits width (omega arith) in
    let low : number_of old / 2 ^ bits < 1 = (div-lt_iff_lt-mul some).1 (omega arith) in
    let none : number_of old / 2 ^ bits % 2 ^ width ≡ 0 = mod-eq_of_lt (let l : number_of old / 2 ^ bits < 2 ^ width = omega (arith, low, pow_pos width) in l) ∙ omega (arith, low) in
    let itself : high % 2 ^ width ≡ high = mod-eq_of_lt (digit_count-holds high) in
    let under : number_of new < 1 * 2 ^ bits = (div-lt_iff_lt-mul some).0 (omega (arith, same, none, itself)) in
    omega (arith, under)

-- the same of words that were made as zeros, and of the count and the width as the code holds them
pub none_behind_zeros : (made old new words : List ℕ) (count width count' width' : ℕ) → number_of made ≡ 0 → old ≡ made → words ≡ new → count' ≡ count → width' ≡ width
    → KeepsBack old new (count' * width') → number_of words < 2 ^ (count * width)
none_behind_zeros made old new words count width count' width' zeros is_old is count_is width_is kept =
    let none : number_of old ≡ 0 = ap number_of is_old ∙ zeros in
    let below : number_of new < 2 ^ (count' * width') = none_behind old new (count' * width') none kept in
    let same : count' * width' ≡ count * width = ap (λ n. n * width') count_is ∙ ap (λ w. count * w) width_is in
    let power : 2 ^ (count' * width') ≡ 2 ^ (count * width) = ap (λ n. 2 ^ n) same in
    let number : number_of words ≡ number_of new = ap number_of is in
    omega arith

-- a bucket that stays is still 0 if it is empty
pub zero_stays : (old new : List ℕ) (k v index : ℕ) → bucket_in new k v index ≡ bucket_in old k v index → value_in new k v index ≡ value_in old k v index → IsZeroIfEmpty old k v index
    → IsZeroIfEmpty new k v index
zero_stays old new k v index same value known = λ none. value ∙ known (sym same ∙ none)

-- one more bucket of the value 0
pub zeros_more : (old new : List ℕ) (k v start place : ℕ) → ((index : ℕ) → start ≤ index → index < start + place → IsZeroIfEmpty old k v index) → value_in new k v (start + place) ≡ 0
    → ((index : ℕ) → index ≢ start + place → (bucket_in new k v index ≡ bucket_in old k v index) × (value_in new k v index ≡ value_in old k v index))
    → (index : ℕ) → start ≤ index → index < start + (place + 1) → IsZeroIfEmpty new k v index
zeros_more old new k v start place before here others index above below =
    ⊎_elim
    (λ (same : index ≡ start + place) (none : bucket_in new k v index ≡ None). ap (value_in new k v) same ∙ here)
    (λ (apart : (index < start + place) ⊎ (start + place < index)). ⊎_elim
    (λ (less : index < start + place).
    let stays = others index (λ e. omega arith) in zero_stays old new k v index stays.0 stays.1 (before index above less))
    (λ (more : start + place < index). absurd (omega arith))
    apart)
    (cases_order index (start + place))

-- and one that is taken, which has any value
pub zeros_but_taken : (old new : List ℕ) (k v place : ℕ) (pair : ℕ × ℕ) → bucket_in new k v place ≡ Some pair
    → ((index : ℕ) → index ≢ place → (bucket_in new k v index ≡ bucket_in old k v index) × (value_in new k v index ≡ value_in old k v index))
    → (index : ℕ) → IsZeroIfEmpty old k v index → IsZeroIfEmpty new k v index
zeros_but_taken old new k v place pair taken others index known =
    ⊎_elim
    (λ (same : index ≡ place) (none : bucket_in new k v index ≡ None). let both : None ≡ Some pair = sym none ∙ ap (bucket_in new k v) same ∙ taken in absurd cc)
    (λ (apart : (index < place) ⊎ (place < index)).
    let other : index ≢ place = ⊎_elim (λ (l : index < place) e. omega arith) (λ (m : place < index) e. omega arith) apart in
    let stays = others index other in zero_stays old new k v index stays.0 stays.1 known)
    (cases_order index place)

-- two elements that follow one another are written, and no bit behind them changes
pub back_of_two : (w0 w1 w2 : List ℕ) (at k v limit : ℕ) → ((i u : ℕ) → (i + u ≤ at) ⊎ (at + k ≤ i) → element_of w1 i u ≡ element_of w0 i u)
    → ((i u : ℕ) → (i + u ≤ at + k) ⊎ (at + k + v ≤ i) → element_of w2 i u ≡ element_of w1 i u) → at + (k + v) ≤ limit → KeepsBack w0 w2 limit
back_of_two w0 w1 w2 at k v limit one two inside = λ i u behind.
    let past : at + k ≤ i = omega arith in
    let far : at + k + v ≤ i = omega arith in
    two i u (inr far) ∙ one i u (inr past)
