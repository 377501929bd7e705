use Rattle.std.proofs.Common.{◌≡◌, ◌+◌, ◌-◌, ◌≤◌, None, length, take}
use Rattle.hol_io.specs.Lines.{IsOnePiece, Carries, Takes}
use Rattle.hol_io.specs.Turn.{HasLimits, bytes_to_go}
use Rattle.hol_io.proofs.lines.Lines.next_piece.Given as goal

-- No line was given, and none of the bytes that were searched is 0A.
abbrev pub invariant-loop-count : goal.invariant-loop-count
invariant-loop-count g l = record {
  carries : Carries l.initial.self (g.I.Source.left l.initial.input) l.self (g.I.Source.left l.input);
  one : IsOnePiece (take l.searched l.self.pending);
  within : l.searched ≤ length l.self.pending;
  later : g.I.Source.faults l.initial.input ≤ g.I.Source.faults l.input;
  to_go : bytes_to_go l.self ≤ bytes_to_go l.initial.self;
  line : l.initial.self.line ≡ None → l.self.line ≡ None;
  limits : HasLimits l.initial.self l.self;
  stays : l.self.ended ≡ l.initial.self.ended;
  takes : Takes (g.I.Source.left l.initial.input) (g.I.Source.left l.input) l.initial.self.taken l.self.taken;
}

abbrev pub decreases-loop-count : goal.decreases-loop-count
decreases-loop-count g l = l.self.budget + 1 - l.self.taken
