-- The types of a step, one after another.
use Rattle.std.proofs.Common.{ℕ, List, Bool, ◌&&◌, eqb, ltb}
use Rattle.row_model.specs.Before.{PastPart}
use Rattle.hol_history.specs.Steps.{touches}

-- whether a spot is of the first types of a step
abbrev pub front_names : List PastPart → ℕ → ℕ → ℕ → ℕ → ℕ → Bool
front_names past number i t o n = eqb n number && (ltb t i && touches past t o)
