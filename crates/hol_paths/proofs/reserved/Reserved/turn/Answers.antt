use Rattle.std.proofs.Common.{◌≡◌, ◌∙◌, ℕ, List, ap, arith, length}
use Rattle.hol_paths.specs.declared.entries.Slot.{Slot}
use Rattle.hol_paths.specs.Slots.{Slotted, no_slot, without_slots}
use Rattle.hol_paths.proofs.Leaving.{left_length}
use Rattle.hol_paths.proofs.reserved.Reserved.turn.Goals as goal

pub put_all-requires-clause-room : goal.put_all-requires-clause-room
put_all-requires-clause-room c =
    let slots = c.args.entries.now.slots in
    let left : c.take_out_all.new.entries.slots ≡ without_slots c.args.self.leaving slots =
    ap (λ (e : Slotted). e.slots) c.take_out_all.ensures ∙ ap (λ (ps : List ℕ). without_slots ps slots) c.as_slice.ensures in
    omega (
      arith,
      ap (λ (ss : List Slot). length ss) left,
      ap (λ (e : Slotted). e.room) c.take_out_all.ensures,
      ap (λ (ss : List Slot). length ss) c.as_slice-2.ensures.value,
      left_length no_slot slots c.args.self.leaving (c.requires.rises, c.requires.there),
      c.requires.room,
    )
