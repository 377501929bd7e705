use Rattle.std.proofs.Common.{subst, sym}
use Rattle.std.specs.Prelude.{◌↔◌, Bool, Contains, IsTrue}
use Rattle.hol_history.specs.History.{versions}
use Rattle.hol_history.proofs.Pushes.{place_tells}
use Rattle.hol_history.proofs.history.History.reaches.Goals as goal

pub returns : goal.returns
returns c =
    subst (λ (found : Bool). IsTrue found ↔ Contains (versions c.args.self.now.steps) c.args.version) (sym c.is_some.ensures) (place_tells c.args.self.now.steps c.args.version c.place_of.result c.place_of.ensures.place)
