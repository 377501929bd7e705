use Rattle.std.proofs.Common.{◌<◌, ◌-◌, ◌^◌, ℕ, Option, subst, arith}
use Rattle.std.specs.Prelude.{IfSome}
use Rattle.hol_history.proofs.Pushes.{place_tells}
use Rattle.hol_history.proofs.history.History.steps_since.Goals as goal

pub unwrap-requires : goal.unwrap-requires
unwrap-requires c = (place_tells c.args.self.now.steps c.args.version c.place_of.result c.place_of.ensures.place).1 c.requires

pub overflow_add-result : goal.overflow_add-result
overflow_add-result c =
    let low = subst (λ (found : Option ℕ). IfSome found (λ place. place < 2 ^ 64 - 1)) c.unwrap.ensures c.place_of.ensures.low in
    omega (arith, low)
