use Rattle.std.proofs.Common.{◌≡◌, ◌-◌, ◌^◌, length, min, take}
use Rattle.std.specs.List.{sum_by}
use Rattle.hol_history.proofs.step.Step.rows_left.Given as goal

-- Those of the first types are counted.
abbrev pub invariant-loop-part : goal.invariant-loop-part
invariant-loop-part l = l.rows ≡ min (sum_by (λ part. length part.rows) (take l.part-index l.self.past)) (2 ^ 64 - 1)
