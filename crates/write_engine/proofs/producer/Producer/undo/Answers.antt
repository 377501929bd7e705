use Rattle.std.proofs.Common.{◌∙◌, ap, sym, subst}
use Rattle.write_engine.specs.Production.{IsProducing, without_rows}
use Rattle.write_engine.proofs.Producing.{undone_producing, undone_view}
use Rattle.write_engine.proofs.producer.Producer.undo.Goals as goal

pub invariant_of-self : goal.invariant_of-self
invariant_of-self c = subst (IsProducing c.self.inside.model) (sym c.undo_all.ensures) (undone_producing c.self.inside.model c.self.inside.maps.items c.self.invariant)

pub returns : goal.returns
returns c =
    undone_view c.self.inside.model c.self.inside.maps.items c.undo_all.new.maps.items c.self.inside.tag c.self.inside.version c.self.inside.closed c.self.inside.over c.undo_all.ensures c.self.invariant
    ∙ ap without_rows c.self.view_is
