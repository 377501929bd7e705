use Rattle.std.proofs.Common.{◌≡◌, ◌<◌, ℕ, take, map}
use Rattle.schema_model.specs.Model.{BreaksAt, named_indexes}
use Rattle.schema_model.specs.declared.model.rule.Rule.TheVariants.{UnknownType}
use Rattle.model_rules.proofs.type_graph.check_named_types.Given as goal

-- none of the first types breaks the rule, and their references are in the graph
abbrev pub invariant-loop-type_index : goal.invariant-loop-type_index
invariant-loop-type_index l = ((u : ℕ) → u < l.type_index → ¬ BreaksAt l.schemas UnknownType u) × (l.graph ≡ map (named_indexes l.schemas) (take l.type_index l.schemas))
