use Rattle.std.proofs.Common.{arith, ◌<◌, length}
use Rattle.linked_slots.proofs.Paired.{next_is, within}
use Rattle.linked_slots.proofs.links.Links.next.Goals as goal

pub index-requires : goal.index-requires
index-requires c = let w : c.args.slot < length c.self.inside.steps.items = within c.self.inside.steps.items c.self.inside.befores.items c.args.self.now c.self.invariant c.self.view_is c.args.slot c.requires in omega arith

pub returns : goal.returns
returns c link there = next_is c.self.inside.steps.items c.self.inside.befores.items c.args.self.now c.self.invariant c.self.view_is c.args.slot c.index.result.now link c.requires c.index.ensures there
