use Rattle.std.proofs.Common.{ℕ, ◌<◌, get_or, []}
use Rattle.schema_model.specs.Model.{IsBadPath}
use Rattle.model_rules.proofs.keys.has_bad_path.Given as goal

-- none of the first paths leads nowhere
abbrev pub invariant-loop-path : goal.invariant-loop-path
invariant-loop-path l = (k : ℕ) → k < l.path-index → ¬ IsBadPath l.schemas l.type_index (get_or l.paths k [])
