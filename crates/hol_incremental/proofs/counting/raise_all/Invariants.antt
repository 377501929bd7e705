use Rattle.std.proofs.Common.{◌≡◌, ◌+◌, ℕ, length, take}
use Rattle.hol_incremental.specs.Counts.{times_among}
use Rattle.hol_incremental.specs.EditKeys.{count_at}
use Rattle.hol_incremental.proofs.counting.raise_all.Given as goal

abbrev pub invariant-loop-row : goal.invariant-loop-row
invariant-loop-row l = record {
  types : length l.counts ≡ length l.initial.counts;
  raised : (t o : ℕ) → count_at l.counts t o ≡ count_at l.initial.counts t o + times_among t o (take l.row-index l.named);
}
