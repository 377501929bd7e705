use Rattle.std.proofs.Common.{◌≡◌, ◌-◌, take, drop}
use Rattle.row_model.specs.Areas.{area_of}
use Rattle.object_codec.proofs.value.copy.Given as goal

abbrev pub invariant-loop-at : goal.invariant-loop-at
invariant-loop-at g l = l.bytes.items ≡ take (l.at - l.start) (drop l.start (area_of (g.P.Parts.area_bytes l.parts) l.field))
