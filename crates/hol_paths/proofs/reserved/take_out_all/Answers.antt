use Rattle.std.proofs.Common.{◌≡◌, ◌+◌, ◌-◌, ◌<◌, ◌∙◌, ℕ, List, ap, arith, drop, get_or, length, subst, sym}
use Rattle.hol_paths.specs.declared.entries.Slot.{Slot}
use Rattle.hol_paths.specs.Slots.{Slotted, without_slots}
use Rattle.hol_paths.proofs.Places.{next_there}
use Rattle.hol_paths.proofs.reserved.take_out_all.Goals as goal

pub take_out-requires : goal.take_out-requires
take_out-requires c =
    let places = c.args.places.now in
    let slots = c.args.entries.now.slots in
    let k = c.loop-left.left - 1 in
    let next : k + 1 ≡ c.loop-left.left = omega (arith, c.loop-left-test.true) in
    let taken : c.loop-left.entries.slots ≡ without_slots (drop (k + 1) places) slots =
    ap (λ (e : Slotted). e.slots) c.loop-left.invariant.taken ∙ ap (λ (n : ℕ). without_slots (drop n places) slots) (sym next) in
    subst (λ (ss : List Slot). get_or places k 0 < length ss) (sym taken)
    (next_there slots places c.requires.rise c.requires.there k (omega (arith, c.loop-left-test.true, c.loop-left.invariant.within)))
