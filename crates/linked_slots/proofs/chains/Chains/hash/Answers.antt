use Rattle.std.proofs.Common.{◌∙◌, sym}
use Rattle.linked_slots.proofs.Opened.{hash_now}
use Rattle.linked_slots.proofs.chains.Chains.hash.Goals as goal

pub returns : goal.returns
returns c = c.hash.ensures ∙ sym (hash_now c.self.inside.heads.items c.self.inside.links c.args.self.now c.self.invariant c.self.view_is c.args.slot)
