use Rattle.std.proofs.Common.{◌≡◌, take}
use Rattle.std.specs.Prelude.{IsSomeAnd, slice_get}
use Rattle.hol_history.proofs.part.rows_of.Given as goal

-- The rows so far are the first ones.
abbrev pub invariant-loop-index : goal.invariant-loop-index
invariant-loop-index g l = IsSomeAnd (slice_get (g.L.LeftRows.past l.before) l.type_index) (λ part. l.rows ≡ take l.index part.rows)
