use Rattle.std.proofs.Common.{◌≡◌, ◌<◌, ◌≤◌, ◌^◌, ℕ, true, subst}
use Rattle.hol_history.specs.History.{PastSteps}
use Rattle.hol_history.specs.Steps.{touches_at}
use Rattle.hol_history.proofs.Looking.{greatest_tells}
use Rattle.hol_history.proofs.history.History.greatest.Goals as goal

pub returns : goal.returns
returns c =
    subst (λ (h : PastSteps). (place o : ℕ) → o < 2 ^ 32 → touches_at h.steps place c.args.type_index o ≡ true → o ≤ c.greatest_touched.result) c.self.view_is
    (greatest_tells c.self.inside.spots c.self.inside.next c.self.inside.steps.items c.self.invariant.touched c.args.type_index c.greatest_touched.result c.greatest_touched.ensures)
