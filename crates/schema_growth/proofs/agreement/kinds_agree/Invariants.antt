use Rattle.std.proofs.Common.{ℕ, ◌<◌, All, length, slice_index_or}
use Rattle.schema_model.specs.declared.schema.Field.{Field}
use Rattle.schema_model.specs.Growth.{IsOneKind}
use Rattle.schema_growth.proofs.agreement.kinds_agree.Given as goal

-- the first fields are of the kinds of their names
abbrev pub invariant-loop-place : goal.invariant-loop-place
invariant-loop-place l = (k : ℕ) (d : Field) → k < l.place → k < length l.fields → All (IsOneKind (slice_index_or l.fields k d)) l.others
