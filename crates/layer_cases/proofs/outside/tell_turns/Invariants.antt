use Rattle.hol_io.specs.Turn.{IsEnded}
use Rattle.layer_cases.proofs.outside.tell_turns.Given as goal

-- Behind its end the source has nothing left.
abbrev pub invariant-loop : goal.invariant-loop
invariant-loop g l = record { at_end : IsEnded l.lines (g.I.Source.left l.source) }
