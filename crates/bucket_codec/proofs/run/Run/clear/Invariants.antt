use Rattle.bucket_codec.proofs.Clearing.{IsCleared}
use Rattle.bucket_codec.proofs.run.Run.clear.Given as goal

abbrev pub invariant-loop-place : goal.invariant-loop-place
invariant-loop-place l = IsCleared l.fn.words l.words l.self.key_width l.self.value_width l.self.start l.self.size l.place
