use Rattle.std.proofs.Common.{arith, ◌≡◌, ◌<◌, length}
use Rattle.linked_slots.proofs.Paired.{link_is, within}
use Rattle.linked_slots.proofs.links.Links.link.Goals as goal

pub index-step-requires : goal.index-step-requires
index-step-requires c = let w : c.args.slot < length c.self.inside.steps.items = within c.self.inside.steps.items c.self.inside.befores.items c.args.self.now c.self.invariant c.self.view_is c.args.slot c.requires in omega arith

pub index-requires : goal.index-requires
index-requires c =
    let w : c.args.slot < length c.self.inside.steps.items = within c.self.inside.steps.items c.self.inside.befores.items c.args.self.now c.self.invariant c.self.view_is c.args.slot c.requires in
    let s : length c.self.inside.steps.items ≡ length c.self.inside.befores.items = c.self.invariant.same in
    omega arith

pub returns-clause-link : goal.returns-clause-link
returns-clause-link c = link_is c.self.inside.steps.items c.self.inside.befores.items c.args.self.now c.self.invariant c.self.view_is c.args.slot c.index-step.result.now c.index.result.now c.requires c.index-step.ensures c.index.ensures
