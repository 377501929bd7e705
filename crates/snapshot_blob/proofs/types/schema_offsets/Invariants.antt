use Rattle.std.proofs.Common.{◌≡◌, take}
use Rattle.snapshot_blob.specs.Judged.{offsets_of}
use Rattle.snapshot_blob.proofs.types.schema_offsets.Given as goal

abbrev pub invariant-loop-part : goal.invariant-loop-part
invariant-loop-part l = l.offsets ≡ offsets_of (take l.part-index l.parts)
