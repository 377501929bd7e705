use Rattle.std.proofs.Common.{◌≡◌, drop}
use Rattle.state_moves.specs.Judged.{offset_among}
use Rattle.state_moves.proofs.closing.offset_of.Given as goal

abbrev pub invariant-loop-part : goal.invariant-loop-part
invariant-loop-part l = offset_among l.parts l.size l.type_index ≡ offset_among (drop l.part-index l.parts) l.size l.type_index
