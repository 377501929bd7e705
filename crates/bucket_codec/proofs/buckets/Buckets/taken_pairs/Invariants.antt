use Rattle.std.proofs.Common.{◌≡◌}
use Rattle.bucket_codec.specs.Run.{run_in, taken_of}
use Rattle.bucket_codec.proofs.buckets.Buckets.taken_pairs.Given as goal

abbrev pub invariant-loop-index : goal.invariant-loop-index
invariant-loop-index l = l.pairs ≡ taken_of (run_in l.self.words.now l.self.key_width l.self.value_width l.self.start l.index)
