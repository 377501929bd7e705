use Rattle.std.proofs.Common.{◌≡◌, ◌<◌, ℕ, Some}
use Rattle.std.specs.Prelude.{slice_get}
use Rattle.hol_history.specs.History.{PastStep}
use Rattle.hol_history.proofs.history.History.place_of.Given as goal

-- No newer step leads from the version.
abbrev pub invariant-loop-place : goal.invariant-loop-place
invariant-loop-place l = (newer : ℕ) (step : PastStep) → newer < l.place → slice_get l.self.steps newer ≡ Some step → ¬ (step.from ≡ l.version)
