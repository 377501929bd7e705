-- The gaps that are written of a rising list are those of a run.
use Rattle.std.proofs.Common.{◌<◌, ◌^◌, ℕ, List, length, get_or, inl, inr, sym, subst, arith}
use Rattle.std.specs.List.{All}
use Rattle.std.specs.List.Sorted.{IsStrictlyIncreasing}
use Rattle.std.proofs.lemmas.Bool.{cases_lt}
use Rattle.std.proofs.lemmas.List.{get_or_past}
use Rattle.ordinal_set.specs.Gaps.{Gaps, gap_bytes}
use Rattle.ordinal_set.proofs.GapRuns.{gaps_of}

small_at : (list : List ℕ) (i : ℕ) → All (λ ordinal. ordinal < 2 ^ 32) list → get_or list i 0 < 2 ^ 32
small_at list i small = elim (cases_lt i (length list)) [
  | inl inside ↦ small i 0 inside
  | inr past ↦ subst (λ n. n < 2 ^ 32) (sym (get_or_past list i 0 past)) (omega arith)
]

pub gaps_stand : (list : List ℕ) → IsStrictlyIncreasing list → All (λ ordinal. ordinal < 2 ^ 32) list → Gaps (gap_bytes list) list
gaps_stand list rising small = gaps_of list rising (λ i. record { fits = small_at list i small })
