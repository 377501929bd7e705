use Rattle.std.proofs.Common.{◌≡◌}
use Rattle.state_moves.proofs.Mapped.{first_mapped}
use Rattle.read_engine.proofs.keeping.turn_all.Given as goal

abbrev pub invariant-loop-index : goal.invariant-loop-index
invariant-loop-index g l = l.indexes ≡ first_mapped g.I.StepIndex.turned l.index-index l.initial.indexes
