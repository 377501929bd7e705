use Rattle.std.proofs.Common.{◌≡◌, take, map}
use Rattle.model_rules.specs.RuleTests.{has_chained}
use Rattle.model_rules.proofs.chains.next_marks.Given as goal

-- the marks of the first types
abbrev pub invariant-loop-row : goal.invariant-loop-row
invariant-loop-row l = l.next.items ≡ map (has_chained l.marks) (take l.row-index l.graph)
