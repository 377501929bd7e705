use Rattle.std.proofs.Common.{take}
use Rattle.std.specs.Prelude.{All}
use Rattle.snapshot_blob.specs.Stated.{KeepsCounts}
use Rattle.snapshot_blob.proofs.types.check_counts.Given as goal

abbrev pub invariant-loop-part : goal.invariant-loop-part
invariant-loop-part l = All KeepsCounts (take l.part-index l.parts)
