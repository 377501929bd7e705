use Rattle.std.proofs.Common.{take}
use Rattle.std.specs.Prelude.{All}
use Rattle.delta_blob.specs.OfModel.{KeepsNamed}
use Rattle.delta_blob.proofs.of_model.check_counts.Given as goal

abbrev pub invariant-loop-named : goal.invariant-loop-named
invariant-loop-named l = All KeepsNamed (take l.named-index l.parts)
