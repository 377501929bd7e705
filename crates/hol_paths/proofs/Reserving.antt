-- What is reserved, and what is left once it is turned.
use Rattle.std.proofs.Common.{◌≡◌, ◌↔◌, ℕ, ◌+◌, ◌-◌, ◌<◌, ◌≤◌, ◌∙◌, refl, sym, ap, subst, inl, inr, arith, List, ◌++◌, Option, Some, None, length, map}
use Rattle.std.specs.Prelude.{[], All, Contains, IfSome, IsPermutation, Result, Ok, Err}
use Rattle.std.proofs.lemmas.List.{length-append, length-map, map-append}
use Rattle.std.proofs.lemmas.List.Sorted.{All-permutation, IsPermutation-map, length_permutation}
use Rattle.hol_varint.specs.Yields.{Yields}
use Rattle.schema_model.specs.Limit.{number_of_limit}
use Rattle.schema_model.specs.declared.limit.Limit.TheVariants.{Entries}
use Rattle.schema_model.specs.declared.model.walk_path.WalkPart.{WalkPart}
use Rattle.schema_model.specs.declared.schema.Schema.{Schema}
use Rattle.row_model.specs.declared.row.Value.{Value}
use Rattle.row_model.specs.Reach.{AreEntries}
use Rattle.row_model.specs.Row.{Rises}
use Rattle.row_model.specs.Table.{Table}
use Rattle.hol_paths.specs.declared.entries.Slot.{Slot}
use Rattle.hol_paths.specs.declared.fault.WalkFault.{WalkFault}
use Rattle.hol_paths.specs.declared.fault.WalkFault.TheVariants as fault
use Rattle.hol_paths.specs.declared.reserved.Reserved.{Reserved}
use Rattle.hol_paths.specs.Slots.{AreKnown, AreLeaving, CountsOnce, IsReserved, IsWalkKept, Slotted, entries_of, entry_of, next_of, no_slot, owner_in, owner_of, without_slots}
use Rattle.hol_paths.specs.Walked.{AreAdded, CountsOwners, Entry, FollowsWalk, HasManyEntries, IsFree}
use Rattle.hol_paths.proofs.Coming.{few_entries, kept, left_entries, next_entries, places_there, stays_in}
use Rattle.hol_paths.proofs.Counting.{counts_few, counts_next, counts_none, gone_rows, not_more, of_entry, of_slot}
use Rattle.hol_paths.proofs.Leaving.{left_length}
use Rattle.hol_paths.proofs.Moved.{added_moved, counts_moved, entries_moved}

-- once it is turned there are not too many
pub turned_few : (before : Slotted) (reserved : Reserved) (slots : List Slot) → IsReserved before reserved → slots ≡ without_slots reserved.leaving before.slots ++ reserved.coming.items → length slots ≤ number_of_limit Entries
turned_few before reserved slots is turned =
    omega (arith, ap length turned, length-append (without_slots reserved.leaving before.slots) reserved.coming.items, left_length no_slot before.slots reserved.leaving (is.rises, is.there), is.few)

-- the places that leave are not more than the slots
pub leaving_length : (slots : List Slot) (removed leaving : List ℕ) → AreLeaving slots removed leaving → length leaving ≤ length slots
leaving_length slots removed leaving leaves = omega (arith, left_length no_slot slots leaving (leaves.rises, places_there slots removed leaving leaves))

-- for so many there is room beside those that stay
pub room_is : (slots : List Slot) (leaving : List ℕ) (most : ℕ) → length slots ≤ number_of_limit Entries → length leaving ≤ length slots → most ≡ 4194304 - (length slots - length leaving)
    → number_of_limit Entries + length leaving ≡ most + length slots
room_is slots leaving most few less is =
    let limit : number_of_limit Entries ≡ 4194304 = refl in
    omega (arith, few, less, is, limit)

-- ---- exactly where there are too many

pub many_told : {T : Type 0} (result : Result T WalkFault) (Many : Type 0) → (result ≡ Err fault.Entries → Many) → ((t : T) → result ≡ Ok t → Many → ⊥) → Yields IsFree result (Err fault.Entries) Many
many_told (Ok t) Many told few = (told, λ h. absurd (few t refl h))
many_told (Err fault.Entries) Many told few = (told, λ h. inl refl)
many_told (Err fault.Memory) Many told few = (told, λ h. inr tt)

pub many_passed : {T U : Type 0} (result : Result T WalkFault) (e : WalkFault) (Many : Type 0) → result ≡ Err e → (◌≡◌ {A = Result U WalkFault} (Err e) (Err fault.Entries) → Many) → Yields IsFree result (Err fault.Entries) Many
many_passed {T} {U} result e Many is told = subst (λ (r : Result T WalkFault). Yields IsFree r (Err fault.Entries) Many) (sym is) (by e told)
  where
    by : (f : WalkFault) → (◌≡◌ {A = Result U WalkFault} (Err f) (Err fault.Entries) → Many) → Yields {T = T} IsFree (Err f) (Err fault.Entries) Many
    by fault.Entries told_of = (λ same. told_of refl, λ h. inl refl)
    by fault.Memory told_of = (λ same. absurd cc, λ h. inr tt)

pub never_many : {T : Type 0} (result : Result T WalkFault) (t : T) (Many : Type 0) → result ≡ Ok t → Yields IsFree result (Err fault.Entries) Many → Many → ⊥
never_many {T} result t Many is told h =
    elim ((subst (λ (r : Result T WalkFault). Yields IsFree r (Err fault.Entries) Many) is told).1 h) [
      | inl same ↦ absurd cc
      | inr free ↦ absurd free
    ]

-- ---- how many rows have an entry then

module _ (values : List Value) (slots coming : List Slot) (removed leaving added : List ℕ) (leaves : AreLeaving slots removed leaving)
    (schemas : List Schema) (table : Table) (t : ℕ) (parts : List WalkPart) (follows : FollowsWalk (entries_of values slots) schemas table t parts removed added) where
  abbrev there : List Entry
  there = entries_of values slots

  abbrev left : List Entry
  left = kept values slots removed leaving leaves

  stays : (o : ℕ) (v : Value) → Contains left (o, v) ↔ (Contains there (o, v) × ¬ Contains removed o)
  stays = stays_in values slots removed leaving leaves follows.once

  module _ (keyed gone : ℕ) (counts : CountsOwners there keyed) (going : CountsOnce (map (owner_of slots) leaving) gone) where
    pub gone_few : gone ≤ keyed
    gone_few = omega (arith, going.2, not_more there left [] removed stays keyed counts (map (owner_of slots) leaving) going.0 going.1 (gone_rows values slots removed leaving leaves))

    pub counted_next : (new : ℕ) → CountsOnce (map owner_in coming) new → AreAdded schemas table t parts added (entries_of values coming)
        → CountsOwners (entries_of values (without_slots leaving slots ++ coming)) (keyed - gone + new)
    counted_next new comes are =
        subst (λ (n : ℕ). CountsOwners (entries_of values (without_slots leaving slots ++ coming)) (keyed - gone + n)) (sym comes.2)
        (subst (λ (n : ℕ). CountsOwners (entries_of values (without_slots leaving slots ++ coming)) (keyed - n + length comes.0)) (sym going.2)
        (subst (λ (es : List Entry). CountsOwners es (keyed - length going.0 + length comes.0))
        (sym (map-append (entry_of values) (without_slots leaving slots) coming ∙ ap (λ es. es ++ entries_of values coming) (left_entries values slots removed leaving leaves)))
        (counts_next there left (entries_of values coming) removed stays keyed counts (map (owner_of slots) leaving) going.0 going.1 (gone_rows values slots removed leaving leaves)
        (λ o has was. follows.apart o was.0 was.1 ((are.are o has.0).0 has.1).0)
        (map owner_in coming) comes.0 comes.1 (λ o. (of_slot values coming o, of_entry values coming o)))))

-- ---- what leaves and what comes

-- Over the step, these are the places of the slots that leave, and the slots that come.
pub record AreReady (schemas : List Schema) (table : Table) (t : ℕ) (parts : List WalkPart) (values : List Value) (slots : List Slot) (removed added leaving : List ℕ) (coming : List Slot) : Type 0 where
  pub follows : FollowsWalk (entries_of values slots) schemas table t parts removed added
  pub leaves : AreLeaving slots removed leaving
  pub comes : AreAdded schemas table t parts added (entries_of values coming)

module _ (schemas : List Schema) (table : Table) (t : ℕ) (parts : List WalkPart) where
  pub are_ready : (v0 v1 v2 : List Value) (s0 s1 : List Slot) (removed removed1 added added1 leaving leaving1 : List ℕ) (coming coming1 : List Slot)
      → v2 ≡ v1 → s1 ≡ s0 → entries_of v1 s0 ≡ entries_of v0 s0 → removed1 ≡ removed → added1 ≡ added → leaving1 ≡ leaving → IsPermutation coming coming1
      → FollowsWalk (entries_of v0 s0) schemas table t parts removed added → AreLeaving s0 removed1 leaving → AreAdded schemas table t parts added1 (entries_of v1 coming)
      → AreReady schemas table t parts v2 s1 removed added leaving1 coming1
  are_ready v0 v1 v2 s0 s1 removed removed1 added added1 leaving leaving1 coming coming1 same_values same_slots same same_removed same_added same_leaving moved follows leaves comes = record {
    follows = subst (λ (es : List Entry). FollowsWalk es schemas table t parts removed added)
        (sym (ap (λ (vs : List Value). entries_of vs s1) same_values ∙ ap (entries_of v1) same_slots ∙ same)) follows;
    leaves = subst (λ (ss : List Slot). AreLeaving ss removed leaving1) (sym same_slots)
        (subst (λ (rs : List ℕ). AreLeaving s0 rs leaving1) same_removed (subst (λ (ls : List ℕ). AreLeaving s0 removed1 ls) (sym same_leaving) leaves));
    comes = subst (λ (os : List ℕ). AreAdded schemas table t parts os (entries_of v2 coming1)) same_added
        (subst (λ (es : List Entry). AreAdded schemas table t parts added1 es) (sym (ap (λ (vs : List Value). entries_of vs coming1) same_values))
        (added_moved schemas table t parts added1 (entries_of v1 coming) (entries_of v1 coming1) (IsPermutation-map (entry_of v1) coming coming1 moved) comes));
  }

  module _ (values : List Value) (slots : List Slot) (removed added leaving : List ℕ) (coming : List Slot) (ready : AreReady schemas table t parts values slots removed added leaving coming) where
    pub ready_next : AreEntries schemas table t parts (entries_of values (without_slots leaving slots ++ coming))
    ready_next = next_entries values slots removed leaving ready.leaves schemas table t parts added ready.follows coming ready.comes

    pub ready_few : length slots + length coming ≤ number_of_limit Entries + length leaving → HasManyEntries schemas table t parts → ⊥
    ready_few few many = few_entries values slots removed leaving ready.leaves schemas table t parts added ready.follows coming ready.comes few many

    pub ready_counts : (keyed : ℕ) → CountsOwners (entries_of values slots) keyed → (gone new : ℕ) → CountsOnce (map (owner_of slots) leaving) gone → CountsOnce (map owner_in coming) new
        → (gone ≤ keyed) × CountsOwners (entries_of values (without_slots leaving slots ++ coming)) (keyed - gone + new)
    ready_counts keyed counts gone new going comes = (
      gone_few values slots coming removed leaving added ready.leaves schemas table t parts ready.follows keyed gone counts going,
      counted_next values slots coming removed leaving added ready.leaves schemas table t parts ready.follows keyed gone counts going new comes ready.comes,
    )

-- ---- there is room for the number

module _ (values : List Value) (slots coming : List Slot) (leaving : List ℕ) (rises : Rises leaving) (there : All (λ p. p < length slots) leaving)
    (few : length slots + length coming ≤ number_of_limit Entries + length leaving) where
  pub number_fits : (count : ℕ) → CountsOwners (entries_of values (without_slots leaving slots ++ coming)) count → count ≤ 4194304
  number_fits count counts =
      let limit : number_of_limit Entries ≡ 4194304 = refl in
      omega (
        arith,
        counts_few (entries_of values (without_slots leaving slots ++ coming)) count counts,
        length-map (without_slots leaving slots ++ coming) (entry_of values),
        length-append (without_slots leaving slots) coming,
        left_length no_slot slots leaving (rises, there),
        few,
        limit,
      )

-- ---- what is kept, once it is reserved and once it is turned

pub reserved_in : (before : Slotted) (next : Option Reserved) (reserved : Reserved) → next ≡ Some reserved → IfSome next (IsReserved before) → IsReserved before reserved
reserved_in before next reserved is kept_next = subst (λ (n : Option Reserved). IfSome n (IsReserved before)) is kept_next

-- the entries are those that they were, by whatever values they are read
pub same_kept : (before after : Slotted) → after.slots ≡ before.slots → entries_of after.values before.slots ≡ entries_of before.values before.slots → entries_of after.values after.slots ≡ entries_of before.values before.slots
same_kept before after same_slots same = ap (entries_of after.values) same_slots ∙ same

pub kept_still : (before after : Slotted) (keyed : ℕ) (next new : Option Reserved) → IsWalkKept before keyed next → after.slots ≡ before.slots → entries_of after.values before.slots ≡ entries_of before.values before.slots
    → IfSome new (IsReserved after) → IsWalkKept after keyed new
kept_still before after keyed next new is same_slots same ready = record {
  few = subst (λ (ss : List Slot). length ss ≤ number_of_limit Entries) (sym same_slots) is.few;
  counts = subst (λ (es : List Entry). CountsOwners es keyed) (sym (same_kept before after same_slots same)) is.counts;
  reserved = ready;
}

module _ (before after : Slotted) (reserved : Reserved) (is : IsReserved before reserved) (turned : after ≡ record before { slots = without_slots reserved.leaving before.slots ++ reserved.coming.items }) where
  pub turned_is : next_of before reserved ≡ entries_of after.values after.slots
  turned_is = sym (ap (λ (e : Slotted). entries_of e.values e.slots) turned)

  pub turned_kept : IsWalkKept after reserved.keyed None
  turned_kept = record {
    few = turned_few before reserved after.slots is (ap (λ (e : Slotted). e.slots) turned);
    counts = subst (λ (es : List Entry). CountsOwners es reserved.keyed) turned_is is.counts;
    reserved = tt;
  }

-- ---- an index of no rows

pub kept_none : (entries : Slotted) → entries ≡ record { room = 0; values = []; slots = [] } → IsWalkKept entries 0 None
kept_none entries is = subst (λ (e : Slotted). IsWalkKept e 0 None) (sym is) record {
  few = omega arith;
  counts = counts_none;
  reserved = tt;
}

-- ---- what is made ready

pub made_ready : (before after : Slotted) (coming : List Slot) (reserved : Reserved) → IsPermutation coming reserved.coming.items → after.values ≡ before.values → after.slots ≡ before.slots → Rises reserved.leaving
    → All (λ p. p < length before.slots) reserved.leaving → AreKnown before.values coming → length before.slots + length coming ≤ number_of_limit Entries + length reserved.leaving
    → length before.slots + length coming ≤ after.room → CountsOwners (entries_of before.values (without_slots reserved.leaving before.slots ++ coming)) reserved.keyed → IsReserved after reserved
made_ready before after coming reserved moved same_values same_slots rises there known few room counts =
    let long = length_permutation coming reserved.coming.items moved in
    let slots_long = ap (λ (ss : List Slot). length ss) same_slots in
    record {
      rises = rises;
      there = subst (λ (ss : List Slot). All (λ p. p < length ss) reserved.leaving) (sym same_slots) there;
      known = All-permutation (λ (s : Slot). s.number < length after.values) coming reserved.coming.items moved (subst (λ (vs : List Value). AreKnown vs coming) (sym same_values) known);
      room = omega (arith, room, long, slots_long);
      few = omega (arith, few, long, slots_long);
      counts = counts_moved (entries_of after.values (without_slots reserved.leaving after.slots ++ coming)) (next_of after reserved)
          (entries_moved after.values (without_slots reserved.leaving after.slots) coming reserved.coming.items moved) reserved.keyed
          (subst (λ (es : List Entry). CountsOwners es reserved.keyed)
          (sym (ap (λ (vs : List Value). entries_of vs (without_slots reserved.leaving after.slots ++ coming)) same_values
          ∙ ap (λ (ss : List Slot). entries_of before.values (without_slots reserved.leaving ss ++ coming)) same_slots)) counts);
    }
