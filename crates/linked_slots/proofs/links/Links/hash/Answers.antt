use Rattle.linked_slots.proofs.Paired.{hash_is, hash_past}
use Rattle.linked_slots.proofs.links.Links.hash.Goals as goal

pub returns-in-Some : goal.returns-in-Some
returns-in-Some c =
    hash_is c.self.inside.steps.items c.self.inside.befores.items c.args.self.now c.self.invariant c.self.view_is c.args.slot c.deref.result.now c.in-Some.step.now c.linked_hash.result c.deref.ensures.value c.in-Some.ensures.lookup.0
    c.in-Some.ensures.lookup.1 c.linked_hash.ensures

pub returns-in-None : goal.returns-in-None
returns-in-None c = hash_past c.self.inside.steps.items c.self.inside.befores.items c.args.self.now c.self.invariant c.self.view_is c.args.slot c.deref.result.now c.deref.ensures.value c.in-None.ensures.lookup.0
