use Rattle.type_state.specs.Counted.{AreOffsetsHeld}
use Rattle.type_state.proofs.change.hold_offsets.Given as goal

abbrev pub invariant-loop-index : goal.invariant-loop-index
invariant-loop-index l = AreOffsetsHeld l.fields l.widths l.ends l.index
