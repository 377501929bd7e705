use Rattle.bucket_codec.specs.Buckets.{run_of}
use Rattle.bucket_codec.proofs.CopiedRuns.{IsCopying}
use Rattle.bucket_codec.proofs.run.Run.copy_each.Given as goal

abbrev pub invariant-loop-index : goal.invariant-loop-index
invariant-loop-index l = IsCopying l.fn.words l.words l.self.key_width l.self.value_width l.self.start l.self.size (run_of l.from) l.index
