use Rattle.std.proofs.Common.{ℕ, ◌<◌, take}
use Rattle.schema_model.specs.NameIndex.{Indexes}
use Rattle.schema_model.specs.Model.{StandsEarlier}
use Rattle.schema_model.specs.Parts.{field_names}
use Rattle.model_rules.proofs.rules.has_repeated_field.Given as goal

-- the first names are indexed, and none of them stands earlier
abbrev pub invariant-loop-place : goal.invariant-loop-place
invariant-loop-place l = Indexes (take l.place (field_names l.fields)) l.index × ((k : ℕ) → k < l.place → ¬ StandsEarlier (field_names l.fields) k)
