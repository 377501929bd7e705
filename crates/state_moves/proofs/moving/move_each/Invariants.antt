use Rattle.std.proofs.Common.{take}
use Rattle.state_moves.specs.Moving.{AreMoved, ComesOf, StaysCurrent}
use Rattle.state_moves.proofs.moving.move_each.Given as goal

abbrev pub invariant-loop-part : goal.invariant-loop-part
invariant-loop-part l = record {
  stays : StaysCurrent l.initial.states l.states;
  moved : AreMoved (take l.part-index l.parts) l.states l.named l.past;
  comes : ComesOf (take l.part-index l.parts) l.initial.states l.states l.named;
}
