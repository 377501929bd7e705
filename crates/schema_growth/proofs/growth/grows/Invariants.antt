use Rattle.std.proofs.Common.{ℕ, ◌<◌}
use Rattle.schema_model.specs.Growth.{GrowsAt}
use Rattle.schema_growth.proofs.growth.grows.Given as goal

-- the first types have grown
abbrev pub invariant-loop-type_index : goal.invariant-loop-type_index
invariant-loop-type_index l = (earlier : ℕ) → earlier < l.type_index → GrowsAt l.model l.grown earlier
