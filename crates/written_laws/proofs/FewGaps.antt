-- The gaps of a list of ordinals take few bytes: five at most each.
use Rattle.std.proofs.Common.{◌≤◌, ◌<◌, ◌+◌, ◌-◌, ◌*◌, ◌/◌, ◌%◌, ◌^◌, ℕ, List, [], ◌∷◌, length, arith, length-append}
use Rattle.std.specs.Int.Digits.{digits_of}
use Rattle.std.specs.List.{All}
use Rattle.std.specs.List.Sorted.{IsStrictlyIncreasing}
use Rattle.std.proofs.lemmas.List.{length-map}
use Rattle.std.proofs.lemmas.List.Elements.{All-head, All-tail}
use Rattle.std.proofs.lemmas.List.Kept.{AllPairs-from_increasing}
use Rattle.std.proofs.lemmas.Int.Digits.{length-digits_of-le}
use Rattle.hol_varint.specs.Varint.{varint_bytes, high_bytes}
use Rattle.ordinal_set.specs.Gaps.{gap_bytes, gap_bytes_after}
use Rattle.written_laws.proofs.NamedOnce.{few_rising}

five_bytes : (n : ℕ) → n < 2 ^ 32 → length (varint_bytes n) ≤ 5
unfolding varint_bytes high_bytes
five_bytes n small =
    let long = length-append (high_bytes (n / 128)) (n % 128 ∷ []) in
    let groups = length-map (digits_of 128 (n / 128)) (λ group. group + 128) in
    let few : length (digits_of 128 (n / 128)) ≤ 4 = length-digits_of-le 128 4 (n / 128) (omega arith) (omega (arith, small)) in
    omega (arith, long, groups, few)

gaps_after : (before : ℕ) (list : List ℕ) → All (λ ordinal. ordinal < 2 ^ 32) list → length (gap_bytes_after before list) ≤ 5 * length list
unfolding gap_bytes_after
gaps_after before [] small = omega arith
gaps_after before (number ∷ rest) small =
    let head = All-head (λ ordinal. ordinal < 2 ^ 32) number rest small in
    let first = five_bytes (number - before) (omega (arith, head)) in
    let others = gaps_after number rest (All-tail (λ ordinal. ordinal < 2 ^ 32) number rest small) in
    omega (arith, first, others, length-append (varint_bytes (number - before)) (gap_bytes_after number rest))

-- those of a rising list of ordinals within the limit
pub few_gap_bytes : (list : List ℕ) → IsStrictlyIncreasing list → All (λ ordinal. ordinal < 2 ^ 22) list → length (gap_bytes list) ≤ 5 * 2 ^ 22
few_gap_bytes list rising below =
    let few = few_rising (2 ^ 22) list (AllPairs-from_increasing list rising) below in
    let small : All (λ ordinal. ordinal < 2 ^ 32) list = λ k d within. let low = below k d within in omega (arith, low) in
    omega (arith, few, gaps_after 0 list small)
