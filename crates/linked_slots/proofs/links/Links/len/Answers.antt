use Rattle.std.proofs.Common.{arith, ◌≡◌, length}
use Rattle.linked_slots.proofs.Paired.{length_is, short_now}
use Rattle.linked_slots.proofs.links.Links.len.Goals as goal

pub returns-clause-is : goal.returns-clause-is
returns-clause-is c =
    let e : length c.args.self.now ≡ length c.self.inside.steps.items = length_is c.self.inside.steps.items c.self.inside.befores.items c.args.self.now c.self.invariant c.self.view_is in
    omega arith

pub returns-clause-short : goal.returns-clause-short
returns-clause-short c = short_now c.self.inside.steps.items c.self.inside.befores.items c.args.self.now c.self.invariant c.self.view_is
