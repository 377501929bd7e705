use Rattle.std.proofs.Common.{◌≡◌, ℕ}
use Rattle.model_rules.specs.RuleTests.{chained}
use Rattle.model_rules.proofs.ReferenceChains.{marked_count}
use Rattle.model_rules.proofs.chains.endless_marks.Given as goal

-- the marks after some rounds
abbrev pub invariant-loop-marks : goal.invariant-loop-marks
invariant-loop-marks l = (k : ℕ) × (l.marks.items ≡ chained l.graph k)

-- each round takes a mark away
abbrev pub decreases-loop-marks : goal.decreases-loop-marks
decreases-loop-marks l = marked_count l.marks.items
