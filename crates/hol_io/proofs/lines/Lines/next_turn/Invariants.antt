use Rattle.std.proofs.Common.{◌≡◌, ◌≤◌, None, false}
use Rattle.hol_io.specs.Lines.{Carries, Takes}
use Rattle.hol_io.specs.Turn.{HasLimits, bytes_to_go}
use Rattle.hol_io.proofs.lines.Lines.next_turn.Given as goal

-- No line was given.
abbrev pub invariant-loop-count : goal.invariant-loop-count
invariant-loop-count g l = record {
  carries : Carries l.initial.self (g.I.Source.left l.initial.input) l.self (g.I.Source.left l.input);
  later : g.I.Source.faults l.initial.input ≤ g.I.Source.faults l.input;
  line : l.self.line ≡ None;
  limits : HasLimits l.initial.self l.self;
  open_still : l.self.ended ≡ false;
  takes : Takes (g.I.Source.left l.initial.input) (g.I.Source.left l.input) l.initial.self.taken l.self.taken;
}

abbrev pub decreases-loop-count : goal.decreases-loop-count
decreases-loop-count g l = bytes_to_go l.self
