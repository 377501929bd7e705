use Rattle.std.proofs.Common.{arith, ◌<◌, length, ap, sym, ◌∙◌}
use Rattle.std.specs.Prelude.{is_some}
use Rattle.linked_slots.proofs.Paired.{linked_within, next_long, next_put, next_stays}
use Rattle.linked_slots.proofs.links.Links.set_next.Goals as goal

pub index_mut-requires : goal.index_mut-requires
index_mut-requires c =
    let w : c.args.slot < length c.self.inside.steps.items =
    linked_within c.self.inside.steps.items c.self.inside.befores.items c.args.self.now c.self.invariant c.self.view_is c.args.slot (ap is_some (sym c.hash.ensures) ∙ sym c.is_some.ensures ∙ c.if-is_some.true) in
    omega arith

pub returns-then-is_some-clause-reads : goal.returns-then-is_some-clause-reads
returns-then-is_some-clause-reads c t =
    next_put c.self.inside.steps.items c.self.inside.befores.items c.args.self.now c.self.invariant c.self.view_is c.args.slot c.args.next c.index_mut.result.now
    (ap is_some (sym c.hash.ensures) ∙ sym c.is_some.ensures ∙ c.if-is_some.true) c.index_mut.ensures.value c.requires t

pub returns-then-is_some-clause-len : goal.returns-then-is_some-clause-len
returns-then-is_some-clause-len c = next_long c.self.inside.steps.items c.self.inside.befores.items c.args.self.now c.self.invariant c.self.view_is c.args.slot _
