use Rattle.std.proofs.Common.{ℕ, ◌<◌}
use Rattle.schema_model.specs.Model.{BreaksAt}
use Rattle.schema_model.specs.declared.model.rule.Rule.TheVariants.{LongName}
use Rattle.model_rules.proofs.lengths.check_lengths.Given as goal

-- none of the first types breaks the rule
abbrev pub invariant-loop-type_index : goal.invariant-loop-type_index
invariant-loop-type_index l = (u : ℕ) → u < l.type_index → ¬ BreaksAt l.schemas LongName u
