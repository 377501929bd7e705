use Rattle.std.proofs.Common.{arith}
use Rattle.linked_slots.proofs.Paired.{before_is, before_long, before_nowhere}
use Rattle.linked_slots.proofs.links.Links.set_before.Goals as goal

pub returns-then-slot-len-clause-reads : goal.returns-then-slot-len-clause-reads
returns-then-slot-len-clause-reads c t = before_is c.self.inside.steps.items c.self.inside.befores.items c.args.self.now c.self.invariant c.self.view_is c.args.slot c.args.before (omega arith) t

pub returns-then-slot-len-clause-len : goal.returns-then-slot-len-clause-len
returns-then-slot-len-clause-len c = before_long c.self.inside.steps.items c.self.inside.befores.items c.args.self.now c.self.invariant c.self.view_is c.args.slot c.args.before

pub returns-else-slot-len-clause-reads : goal.returns-else-slot-len-clause-reads
returns-else-slot-len-clause-reads c t = before_nowhere c.self.inside.steps.items c.self.inside.befores.items c.args.self.now c.self.invariant c.self.view_is c.args.slot c.args.before (omega arith) t
