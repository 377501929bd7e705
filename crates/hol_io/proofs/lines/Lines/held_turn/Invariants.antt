use Rattle.std.proofs.Common.{◌≡◌, List, ℕ, length, Option, None}
use Rattle.hol_io.specs.Lines.{Carries}
use Rattle.hol_io.specs.Turn.{HasLimits}
use Rattle.hol_io.proofs.lines.Lines.held_turn.Given as goal

-- No line was given.
abbrev pub invariant-loop-count : goal.invariant-loop-count
invariant-loop-count l = record {
  carries : (left : Option (List ℕ)) → Carries l.initial.self left l.self left;
  line : l.self.line ≡ None;
  taken : l.self.taken ≡ l.initial.self.taken;
  limits : HasLimits l.initial.self l.self;
  stays : l.self.ended ≡ l.initial.self.ended;
}

abbrev pub decreases-loop-count : goal.decreases-loop-count
decreases-loop-count l = length l.self.pending
