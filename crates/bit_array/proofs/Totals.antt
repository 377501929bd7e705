-- Sums of widths.
use Rattle.std.proofs.Common.{ℕ, ◌-◌, ◌*◌, ◌^◌, ◌<◌, ◌≤◌, List, length, get_or, arith}
use Rattle.std.specs.Prelude.{sum, All}
use Rattle.std.proofs.lemmas.List.Elements.{All-from_get_or}
use Rattle.std.proofs.lemmas.List.Sums.{sum_by-le}

-- the sum of the widths, each of which has 32 bits
pub sum_small : (widths : List ℕ) → length widths < 2 ^ 64 → ((i : ℕ) → get_or widths i 0 < 2 ^ 32) → sum widths < 2 ^ 96
sum_small widths long small =
    let each : All (λ width. width ≤ 2 ^ 32 - 1) widths = All-from_get_or (λ width. width ≤ 2 ^ 32 - 1) widths 0 (λ i h. omega (arith, small i)) in
    let below : sum widths ≤ length widths * (2 ^ 32 - 1) = sum_by-le (λ width. width) (2 ^ 32 - 1) widths each in omega arith
