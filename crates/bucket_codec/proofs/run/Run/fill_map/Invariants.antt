use Rattle.std.proofs.Common.{take}
use Rattle.bucket_codec.specs.Filled.{FillsRun}
use Rattle.bucket_codec.proofs.run.Run.fill_map.Given as goal

abbrev pub invariant-loop-key : goal.invariant-loop-key
invariant-loop-key l = FillsRun l.fn.words l.words l.self.key_width l.self.value_width l.self.start l.self.size (take l.key-index l.pairs)
