use Rattle.std.proofs.Common.{◌≡◌, ◌<◌, ℕ}
use Rattle.std.specs.Prelude.{slice_get}
use Rattle.chain_check.proofs.models.is_same_model.Given as goal

-- the first types are the same
abbrev pub invariant-loop-type_index : goal.invariant-loop-type_index
invariant-loop-type_index l = (t : ℕ) → t < l.type_index → slice_get l.model t ≡ slice_get l.other t
