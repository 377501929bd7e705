use Rattle.std.proofs.Common.{◌≡◌, take}
use Rattle.snapshot_blob.specs.Stated.{schemas_of}
use Rattle.snapshot_blob.proofs.types.copied_schemas.Given as goal

abbrev pub invariant-loop-part : goal.invariant-loop-part
invariant-loop-part l = l.schemas ≡ schemas_of (take l.part-index l.parts)
