use Rattle.std.proofs.Common.{map, take}
use Rattle.bucket_codec.specs.Packed.{set_pair}
use Rattle.bucket_codec.specs.Filled.{FillsRun}
use Rattle.bucket_codec.proofs.run.Run.fill_set.Given as goal

abbrev pub invariant-loop-index : goal.invariant-loop-index
invariant-loop-index l = FillsRun l.fn.words l.words l.self.key_width l.self.value_width l.self.start l.self.size (map set_pair (take l.index l.elements))
