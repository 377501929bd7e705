use Rattle.std.proofs.Common.{◌≡◌, ◌<◌, ℕ, slice_get, Some}
use Rattle.schema_model.specs.declared.schema.Field.{Field}
use Rattle.model_paths.proofs.path_walk.field_of.Given as goal

-- none of the first fields has the name
abbrev pub invariant-loop-place : goal.invariant-loop-place
invariant-loop-place l = (k : ℕ) (f : Field) → k < l.place → slice_get l.fields k ≡ Some f → f.name ≡ l.name → ⊥
