use Rattle.std.proofs.Common.{◌+◌, ◌∙◌, ℕ, List, ap, arith, drop, get_or, length, map, take}
use Rattle.std.proofs.lemmas.List.{length-append}
use Rattle.hol_paths.specs.declared.entries.Slot.{Slot}
use Rattle.hol_paths.specs.Met.{of_owner}
use Rattle.hol_paths.specs.Slots.{no_slot}
use Rattle.hol_paths.proofs.MetNumbers.{run_more}
use Rattle.hol_paths.proofs.reserved.push_run.Goals as goal

pub number_in-number-requires : goal.number_in-number-requires
number_in-number-requires c =
    let first = c.args.coming.now.items in
    omega (
      arith,
      ap (λ (l : List Slot). length l) c.as_slice.ensures.value,
      ap (λ (l : List Slot). length l) c.loop-place.invariant,
      length-append first (map (of_owner c.args.owner) (take c.loop-place.place (drop c.args.run.start first))),
      c.requires,
      c.loop-place-test.true,
    )

pub loop-place-preserved : goal.loop-place-preserved
loop-place-preserved c =
    run_more c.args.owner c.args.run c.args.coming.now.items c.loop-place.coming.items c.push_slot.new.coming.items c.loop-place.place (c.args.run.start + c.loop-place.place)
    (record { owner = c.args.owner; number = c.number_in-number.result }) c.requires c.loop-place-test.true (omega arith) c.loop-place.invariant
    (ap (λ (n : ℕ). record { owner = c.args.owner; number = n }) (c.number_in-number.ensures ∙ ap (λ (l : List Slot). (get_or l (c.args.run.start + c.loop-place.place) no_slot).number) c.as_slice.ensures.value))
    c.in_ok-push_slot.ensures
