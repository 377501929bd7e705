use Rattle.std.proofs.Common.{arith, rules, vec_len}
use Rattle.linked_slots.proofs.Paired.{grown_is}
use Rattle.linked_slots.proofs.links.Links.grow.Goals as goal

pub returns-clause-ok : goal.returns-clause-ok
returns-clause-ok c =
    grown_is c.self.inside.steps.items c.self.inside.befores.items c.args.self.now c.self.invariant c.self.view_is c.resize-2.new.self.items c.resize.new.self.items c.args.slots
    (vec_len c.self.inside.steps) (vec_len c.self.inside.befores) c.requires (omega arith) (omega arith) (search rules) c.in_ok-resize.ensures.items
