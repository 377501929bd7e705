use Rattle.std.proofs.Common.{◌≡◌, ◌-◌, ◌^◌, min, take}
use Rattle.hol_history.specs.History.{rows_left}
use Rattle.hol_history.proofs.history.History.rows_kept.Given as goal

-- Those of the newest steps are counted.
abbrev pub invariant-loop-place : goal.invariant-loop-place
invariant-loop-place l = l.rows ≡ min (rows_left (take l.place l.self.steps)) (2 ^ 64 - 1)
