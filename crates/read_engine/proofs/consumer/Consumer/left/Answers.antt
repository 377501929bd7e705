use Rattle.std.proofs.Common.{List, refl, subst, sym}
use Rattle.std.specs.Prelude.{IsSomeAnd}
use Rattle.row_model.specs.Before.{PastPart}
use Rattle.read_engine.specs.Gone.{HasLeft}
use Rattle.read_engine.proofs.Consumers.{each_position, stands_and}
use Rattle.read_engine.proofs.consumer.Consumer.left.Goals as goal

pub returns : goal.returns
returns c =
    subst (λ (past : List PastPart). IsSomeAnd c.args.self.now (HasLeft past)) (sym c.as_slice.ensures)
    (stands_and c.args.self.now (HasLeft c.self.inside.past) c.requires
    (each_position c.self.inside.tag c.self.inside.model c.self.inside.states c.self.inside.past c.self.inside.indexes c.self.inside.walks c.self.invariant c.args.self.now c.self.view_is (HasLeft c.self.inside.past)
    (λ at stands. record { fits = record { fits = stands.fits; rows = stands.position.rows_before }; before = refl })))
