use Rattle.std.proofs.Common.{◌≡◌}
use Rattle.model_rules.specs.RuleTests.{chained}
use Rattle.model_rules.proofs.chains.marks_after.Given as goal

-- the marks after the rounds so far
abbrev pub invariant-loop-round : goal.invariant-loop-round
invariant-loop-round l = l.marks.items ≡ chained l.graph l.round
