use Rattle.std.proofs.Common.{◌≡◌, ◌+◌, ◌-◌, ◌<◌, ℕ, All, List, arith, length, map, refl, subst, sym}
use Rattle.schema_model.specs.Limit.{number_of_limit}
use Rattle.schema_model.specs.declared.limit.Limit.TheVariants.{Entries}
use Rattle.hol_paths.specs.declared.entries.Slot.{Slot}
use Rattle.hol_paths.specs.Slots.{CountsOnce, no_slot, owner_in, owner_of}
use Rattle.hol_paths.proofs.Leaving.{left_length}
use Rattle.hol_paths.proofs.Reserving.{made_ready, number_fits}
use Rattle.hol_paths.proofs.reserved.make_ready.Goals as goal

pub count_owners-requires : goal.count_owners-requires
count_owners-requires c = subst (λ (ps : List ℕ). All (λ (p : ℕ). p < length c.args.entries.now.slots) ps) (sym c.as_slice.ensures) c.requires.there

pub overflow_cast-room : goal.overflow_cast-room
overflow_cast-room c =
    let limit : number_of_limit Entries ≡ 4194304 = refl in
    omega (arith, c.requires.small, c.requires.few, c.len-there.ensures, c.len-more.ensures, c.args.coming.ok, left_length no_slot c.args.entries.now.slots c.args.leaving (c.requires.rise, c.requires.there), limit)

pub overflow_sub-kept : goal.overflow_sub-kept
overflow_sub-kept c =
    let told = c.requires.counts c.in_ok-gone.gone c.in_ok-new.new
    (subst (λ (ps : List ℕ). CountsOnce (map (owner_of c.args.entries.now.slots) ps) c.in_ok-gone.gone) c.as_slice.ensures c.in_ok-gone.ensures)
    (subst (λ (ss : List Slot). CountsOnce (map owner_in ss) c.in_ok-new.new) c.as_slice-2.ensures.value c.in_ok-new.ensures) in
    omega (arith, told.0)

pub overflow_add-keyed : goal.overflow_add-keyed
overflow_add-keyed c =
    let told = c.requires.counts c.in_ok-gone.gone c.in_ok-new.new
    (subst (λ (ps : List ℕ). CountsOnce (map (owner_of c.args.entries.now.slots) ps) c.in_ok-gone.gone) c.as_slice.ensures c.in_ok-gone.ensures)
    (subst (λ (ss : List Slot). CountsOnce (map owner_in ss) c.in_ok-new.new) c.as_slice-2.ensures.value c.in_ok-new.ensures) in
    omega (
      arith,
      number_fits c.args.entries.now.values c.args.entries.now.slots c.args.coming.items c.args.leaving c.requires.rise c.requires.there c.requires.few
          (c.args.keyed - c.in_ok-gone.gone + c.in_ok-new.new) told.1,
    )

pub returns-clause-reserved : goal.returns-clause-reserved
returns-clause-reserved c =
    let told = c.requires.counts c.in_ok-gone.gone c.in_ok-new.new
    (subst (λ (ps : List ℕ). CountsOnce (map (owner_of c.args.entries.now.slots) ps) c.in_ok-gone.gone) c.as_slice.ensures c.in_ok-gone.ensures)
    (subst (λ (ss : List Slot). CountsOnce (map owner_in ss) c.in_ok-new.new) c.as_slice-2.ensures.value c.in_ok-new.ensures) in
    made_ready c.args.entries.now c.reserve.new.self c.args.coming.items _ c.in_ok-coming.ensures c.reserve.ensures.values c.reserve.ensures.slots c.requires.rise c.requires.there c.requires.known c.requires.few
    (omega (arith, c.in_ok-reserve.ensures.room, c.len-there.ensures, c.len-more.ensures, c.args.coming.ok)) told.1
