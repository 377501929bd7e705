use Rattle.std.proofs.Common.{ℕ, ◌≡◌, ◌-◌, ◌^◌, ◌<◌, ◌≤◌, length, min}
use Rattle.bucket_codec.specs.Run.{run_in, taken_of}
use Rattle.bucket_codec.specs.Buckets.{run_of, steps_within, IsFoundAt}
use Rattle.bucket_codec.proofs.buckets.Buckets.count_found.Given as goal

abbrev pub invariant-loop-index : goal.invariant-loop-index
invariant-loop-index l =
    (l.gone ≡ min (steps_within (run_of l.self) l.index) (2 ^ 64 - 1)) × ((place : ℕ) → place < l.index → IsFoundAt (run_of l.self) place)
    × (l.taken ≤ l.index) × (l.taken ≡ length (taken_of (run_in l.self.words.now l.self.key_width l.self.value_width l.self.start l.index)))
