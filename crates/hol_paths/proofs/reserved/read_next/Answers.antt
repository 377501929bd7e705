use Rattle.std.proofs.Common.{rules, ◌≡◌, ◌∙◌, ◌-◌, ◌<◌, ◌≤◌, ℕ, All, List, ap, arith, get_or, length, refl, subst, sym}
use Rattle.std.proofs.lemmas.List.Elements.{Contains-get_or}
use Rattle.std.proofs.lemmas.List.Sorted.{IsPermutation-refl}
use Rattle.row_model.specs.Row.{Rises}
use Rattle.row_model.specs.Table.{IsLive}
use Rattle.schema_model.specs.Limit.{number_of_limit}
use Rattle.schema_model.specs.declared.limit.Limit.TheVariants.{Entries}
use Rattle.hol_paths.specs.declared.entries.Slot.{Slot}
use Rattle.hol_paths.specs.Slots.{AreLeaving, ReachMany}
use Rattle.hol_paths.specs.Walked.{CountsOwners, Entry, HasManyEntries}
use Rattle.hol_paths.proofs.Coming.{many_entries, places_there}
use Rattle.hol_paths.proofs.Reserving.{are_ready, leaving_length, many_passed, ready_counts, ready_few, ready_next, room_is, same_kept}
use Rattle.hol_paths.proofs.reserved.read_next.Goals as goal

pub overflow_sub-stay : goal.overflow_sub-stay
overflow_sub-stay g c = omega (arith, leaving_length c.args.entries.now.slots c.as_slice.result.now c.in_ok-leaving.leaving c.in_ok-leaving.ensures, c.len-there.ensures, c.len-gone.ensures)

pub overflow_sub-most : goal.overflow_sub-most
overflow_sub-most g c =
    let limit : number_of_limit Entries ≡ 4194304 = refl in
    omega (arith, c.len-there.ensures, c.requires.few, limit)

pub read_added-requires-clause-rise : goal.read_added-requires-clause-rise
read_added-requires-clause-rise g c = subst Rises (sym c.as_slice-2.ensures) c.requires.follows.added_rise

pub read_added-requires-clause-live : goal.read_added-requires-clause-live
read_added-requires-clause-live g c =
    subst (λ (os : List ℕ). All (IsLive (g.R.Rows.table c.args.rows.now) c.args.path.now.type_index) os) (sym c.as_slice-2.ensures)
    (λ k d within. c.requires.follows.added_live (get_or c.args.added.now k d) (Contains-get_or c.args.added.now k d within))

pub make_ready-requires-clause-there : goal.make_ready-requires-clause-there
make_ready-requires-clause-there g c =
    subst (λ (ss : List Slot). All (λ (p : ℕ). p < length ss) c.in_ok-leaving.leaving) (sym c.in_ok-coming.ensures.slots)
    (places_there c.args.entries.now.slots c.as_slice.result.now c.in_ok-leaving.leaving c.in_ok-leaving.ensures)

pub make_ready-requires-clause-small : goal.make_ready-requires-clause-small
make_ready-requires-clause-small g c = subst (λ (ss : List Slot). length ss ≤ number_of_limit Entries) (sym c.in_ok-coming.ensures.slots) c.requires.few

pub make_ready-requires-clause-few : goal.make_ready-requires-clause-few
make_ready-requires-clause-few g c =
    let slots = c.args.entries.now.slots in
    let leaving = c.in_ok-leaving.leaving in
    let less = leaving_length slots c.as_slice.result.now leaving c.in_ok-leaving.ensures in
    omega (
      arith,
      ap (λ (ss : List Slot). length ss) c.in_ok-coming.ensures.slots,
      c.in_ok-coming.ensures.few,
      room_is slots leaving (4194304 - (length slots - length leaving)) c.requires.few less refl,
      c.len-there.ensures,
      c.len-gone.ensures,
    )

pub make_ready-requires-clause-counts : goal.make_ready-requires-clause-counts
make_ready-requires-clause-counts g c =
    let S = g.R.Rows.schemas c.args.rows.now in
    let T = g.R.Rows.table c.args.rows.now in
    let t = c.args.path.now.type_index in
    let parts = c.args.path.now.parts in
    let before = c.args.entries.now in
    let after = c.read_added.new.entries in
    let leaving = c.in_ok-leaving.leaving in
    let coming = c.in_ok-coming.coming.items in
    let told = c.in_ok-coming.ensures in
    ready_counts S T t parts after.values after.slots c.args.removed.now c.args.added.now leaving coming
    (are_ready S T t parts before.values after.values after.values before.slots after.slots c.args.removed.now c.as_slice.result.now c.args.added.now c.as_slice-2.result.now leaving leaving coming coming
    refl told.slots told.entries c.as_slice.ensures c.as_slice-2.ensures refl (IsPermutation-refl coming) c.requires.follows c.in_ok-leaving.ensures told.added)
    c.args.keyed (subst (λ (es : List Entry). CountsOwners es c.args.keyed) (sym (same_kept before after told.slots told.entries)) c.requires.counts)

pub returns-clause-next : goal.returns-clause-next
returns-clause-next g c =
    let S = g.R.Rows.schemas c.args.rows.now in
    let T = g.R.Rows.table c.args.rows.now in
    let t = c.args.path.now.type_index in
    let parts = c.args.path.now.parts in
    let before = c.args.entries.now in
    let middle = c.read_added.new.entries in
    let after = c.make_ready.new.entries in
    let reserved = c.in_ok-reserved.reserved in
    let told = c.in_ok-coming.ensures in
    let made = c.in_ok-reserved.ensures in
    ready_next S T t parts after.values after.slots c.args.removed.now c.args.added.now reserved.leaving reserved.coming.items
    (are_ready S T t parts before.values middle.values after.values before.slots after.slots c.args.removed.now c.as_slice.result.now c.args.added.now c.as_slice-2.result.now
    c.in_ok-leaving.leaving reserved.leaving c.in_ok-coming.coming.items reserved.coming.items
    made.values (made.slots ∙ told.slots) told.entries c.as_slice.ensures c.as_slice-2.ensures made.leaving made.coming c.requires.follows c.in_ok-leaving.ensures told.added)

pub returns-in_err-coming-clause-many : goal.returns-in_err-coming-clause-many
returns-in_err-coming-clause-many g c =
    let S = g.R.Rows.schemas c.args.rows.now in
    let T = g.R.Rows.table c.args.rows.now in
    let t = c.args.path.now.type_index in
    let parts = c.args.path.now.parts in
    let slots = c.args.entries.now.slots in
    let leaving = c.in_ok-leaving.leaving in
    let less = leaving_length slots c.as_slice.result.now leaving c.in_ok-leaving.ensures in
    let leaves = subst (λ (rs : List ℕ). AreLeaving slots rs leaving) c.as_slice.ensures c.in_ok-leaving.ensures in
    let most = 4194304 - (c.len-there.result - c.len-gone.result) in
    many_passed c.from_residual-in_err-coming.result c.in_err-coming.field-0.0 (HasManyEntries S T t parts) (search rules)
    (λ same. many_entries c.args.entries.now.values slots c.args.removed.now leaving leaves S T t parts c.args.added.now c.requires.follows most
    (omega (arith, room_is slots leaving (4194304 - (length slots - length leaving)) c.requires.few less refl, c.len-there.ensures, c.len-gone.ensures))
    (subst (λ (os : List ℕ). ReachMany S T t parts os most) c.as_slice-2.ensures (c.read_added.ensures.many (c.in_err-coming.was ∙ same))))

pub returns-clause-many : goal.returns-clause-many
returns-clause-many g c =
    let S = g.R.Rows.schemas c.args.rows.now in
    let T = g.R.Rows.table c.args.rows.now in
    let t = c.args.path.now.type_index in
    let parts = c.args.path.now.parts in
    let before = c.args.entries.now in
    let middle = c.read_added.new.entries in
    let after = c.make_ready.new.entries in
    let reserved = c.in_ok-reserved.reserved in
    let told = c.in_ok-coming.ensures in
    let made = c.in_ok-reserved.ensures in (
      λ same. absurd cc,
      λ h. absurd (ready_few S T t parts after.values after.slots c.args.removed.now c.args.added.now reserved.leaving reserved.coming.items
          (are_ready S T t parts before.values middle.values after.values before.slots after.slots c.args.removed.now c.as_slice.result.now c.args.added.now c.as_slice-2.result.now
          c.in_ok-leaving.leaving reserved.leaving c.in_ok-coming.coming.items reserved.coming.items
          made.values (made.slots ∙ told.slots) told.entries c.as_slice.ensures c.as_slice-2.ensures made.leaving made.coming c.requires.follows c.in_ok-leaving.ensures told.added) made.reserved.few h),
    )
