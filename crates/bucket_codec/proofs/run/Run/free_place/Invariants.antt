use Rattle.std.proofs.Common.{ℕ, ◌<◌, IsSome}
use Rattle.bucket_codec.specs.Run.{bucket_at, run_in, place_from}
use Rattle.bucket_codec.proofs.run.Run.free_place.Given as goal

abbrev pub invariant-loop-steps : goal.invariant-loop-steps
invariant-loop-steps l =
    (s : ℕ) → s < l.steps → IsSome (bucket_at (run_in l.words l.self.key_width l.self.value_width l.self.start l.self.size) (place_from l.self.size l.key s))
