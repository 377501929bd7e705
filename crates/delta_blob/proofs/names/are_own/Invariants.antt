use Rattle.std.proofs.Common.{take}
use Rattle.std.specs.List.{AllZip}
use Rattle.delta_blob.specs.OfModel.{IsOwnAt}
use Rattle.delta_blob.proofs.Indexed.{StandOnce}
use Rattle.delta_blob.proofs.names.are_own.Given as goal

abbrev pub invariant-loop-part : goal.invariant-loop-part
invariant-loop-part l = record {
  each : AllZip (IsOwnAt l.model) (take l.part-index l.parts) l.taken;
  once : StandOnce l.taken;
}
