use Rattle.std.proofs.Common.{arith, ◌≡◌, ◌<◌, length}
use Rattle.linked_slots.proofs.Paired.{put_is, within}
use Rattle.linked_slots.proofs.links.Links.put.Goals as goal

pub index_mut-requires : goal.index_mut-requires
index_mut-requires c = let w : c.args.slot < length c.self.inside.steps.items = within c.self.inside.steps.items c.self.inside.befores.items c.args.self.now c.self.invariant c.self.view_is c.args.slot c.requires.within in omega arith

pub index_mut-requires-2 : goal.index_mut-requires-2
index_mut-requires-2 c =
    let w : c.args.slot < length c.self.inside.steps.items = within c.self.inside.steps.items c.self.inside.befores.items c.args.self.now c.self.invariant c.self.view_is c.args.slot c.requires.within in
    let s : length c.self.inside.steps.items ≡ length c.self.inside.befores.items = c.self.invariant.same in
    omega arith

pub returns : goal.returns
returns c = put_is c.self.inside.steps.items c.self.inside.befores.items c.args.self.now c.self.invariant c.self.view_is c.args.slot c.args.link c.requires.flag
