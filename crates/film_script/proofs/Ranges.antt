-- Numbers one after another, in two parts.
use Rattle.std.proofs.Common.{◌≡◌, ◌+◌, ℕ, zero, suc, ◌∷◌, ◌++◌, arith, ap, ◌∙◌}
use Rattle.std.specs.List.{range_with_len}

pub range_join : (a n k : ℕ) → range_with_len a (n + k) ≡ range_with_len a n ++ range_with_len (a + n) k
range_join a zero k =
    let count : 0 + k ≡ k = omega arith in
    let first : a ≡ a + 0 = omega arith in
    ap (range_with_len a) count ∙ ap (λ b. range_with_len b k) first
range_join a (suc n) k =
    let count : suc n + k ≡ suc (n + k) = omega arith in
    let first : a + 1 + n ≡ a + suc n = omega arith in
    ap (range_with_len a) count ∙ ap (λ ns. a ∷ ns) (range_join (a + 1) n k ∙ ap (λ b. range_with_len (a + 1) n ++ range_with_len b k) first)
