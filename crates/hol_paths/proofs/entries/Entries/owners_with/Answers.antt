use Rattle.std.proofs.Common.{All, ◌<◌, List, ℕ, length, map, subst, sym, ◌∙◌, ap}
use Rattle.hol_paths.specs.declared.entries.Slot.{Slot}
use Rattle.linked_slots.specs.Chained.{hash_of}
use Rattle.hol_paths.specs.Slots.{Slotted, entries_of, owner_of}
use Rattle.hol_paths.specs.Walked.{AreWith}
use Rattle.hol_paths.proofs.Lookup.{places_inside, with_none, with_some}
use Rattle.hol_paths.proofs.entries.Entries.owners_with.Goals as goal

pub returns-in_default : goal.returns-in_default
returns-in_default c =
    subst (λ (r : Slotted). AreWith (entries_of r.values r.slots) c.args.value.now c.new.result) c.self.view_is
    (with_none c.self.inside.values c.self.inside.slots.items c.args.value.now c.self.invariant.known c.place_of.result c.new.result c.place_of.ensures c.in_default.is c.new.ensures)

pub owners_at-requires : goal.owners_at-requires
owners_at-requires c =
    let slots = c.self.inside.slots.items in
    subst (λ (ss : List Slot). All (λ (p : ℕ). p < length ss) c.as_slice-2.result.now) (sym c.as_slice.ensures.value)
    (subst (λ (ps : List ℕ). All (λ (p : ℕ). p < length slots) ps) (sym c.as_slice-2.ensures.value)
    (places_inside c.self.inside.values slots c.args.value.now c.self.invariant.known c.in-Some.number c.place_of.result c.place_of.ensures c.in-Some.is
    (hash_of c.self.inside.numbers) c.self.invariant.numbered c.new-places.result.items c.gather.new.found.items c.new-places.ensures.items c.in_ok-gather.ensures))

pub returns : goal.returns
returns c =
    let slots = c.self.inside.slots.items in
    let owned = c.in_ok-owners.ensures ∙ ap (λ (ss : List Slot). map (owner_of ss) c.as_slice-2.result.now) c.as_slice.ensures.value ∙ ap (map (owner_of slots)) c.as_slice-2.ensures.value in
    subst (λ (r : Slotted). AreWith (entries_of r.values r.slots) c.args.value.now c.rising.result) c.self.view_is
    (with_some c.self.inside.values slots c.args.value.now c.self.invariant.known c.in-Some.number c.place_of.result c.place_of.ensures c.in-Some.is
    (hash_of c.self.inside.numbers) c.self.invariant.numbered c.new-places.result.items c.gather.new.found.items c.new-places.ensures.items c.in_ok-gather.ensures
    c.in_ok-owners.owners.items c.rising.result owned c.rising.ensures)
