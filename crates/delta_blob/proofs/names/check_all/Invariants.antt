use Rattle.std.proofs.Common.{◌≡◌, take}
use Rattle.delta_blob.specs.Patch.{schemas_in}
use Rattle.delta_blob.proofs.names.check_all.Given as goal

abbrev pub invariant-loop-part : goal.invariant-loop-part
invariant-loop-part l = l.schemas ≡ schemas_in (take l.part-index l.parts)
