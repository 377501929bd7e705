use Rattle.std.proofs.Common.{◌≡◌, ◌<◌, ◌-◌, ◌∙◌, arith, length, subst, sym}
use Rattle.std.specs.Prelude.{vec_capacity}
use Rattle.std.proofs.lemmas.List.{get_or_read}
use Rattle.hol_paths.specs.Slots.{Slotted, no_slot}
use Rattle.hol_paths.proofs.Apart.{swap_default}
use Rattle.hol_paths.proofs.Slotted.{taken_kept}
use Rattle.hol_paths.proofs.entries.Entries.take_out.Goals as goal

pub invariant_of-self : goal.invariant_of-self
invariant_of-self c =
    let slots = c.self.inside.slots.items in
    let inside = subst (λ (r : Slotted). c.args.place < length r.slots) (sym c.self.view_is) c.requires in
    let last_is : c.len.result - 1 ≡ length slots - 1 = omega (arith, c.len.ensures, c.self.inside.slots.ok) in
    taken_kept slots (vec_capacity c.self.inside.slots) c.self.inside.owners c.self.inside.numbers c.self.inside.values c.self.inside.room c.self.invariant
    c.args.place (c.len.result - 1) c.index-slot.result.now inside last_is
    (get_or_read slots (c.len.result - 1) c.index-slot.result.now (omega (arith, inside, last_is)) c.index-slot.ensures no_slot)
    c.replace.new.self c.replace-2.new.self c.swap_remove.new.self.items (vec_capacity c.swap_remove.new.self)
    c.replace.ensures.numbers c.replace-2.ensures.numbers c.replace.ensures.slots c.replace-2.ensures.slots
    (c.swap_remove.ensures.items ∙ swap_default slots c.args.place c.swap_remove.result no_slot inside) c.swap_remove.ensures.capacity
