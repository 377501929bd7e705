-- Entries in slots: a slot has the ordinal of a row, and the place of a value that the row reaches among the values.
use Rattle.std.specs.Prelude.{refl, ◌≡◌, ◌≢◌, ◌↔◌, AllPairs, Contains, IfSome, Some, ◌+◌, ◌<◌, ◌≤◌, ℕ, List, [], ◌∷◌, ◌++◌, Option, All, get_or, length, map, option_map, slice_get}
use Rattle.std.specs.List.{swap_remove}
use Rattle.std.specs.Coded.{Coded, code_by, coded×, coded_ℕ, coded_list}
use Rattle.linked_slots.specs.Chained.{Chained, hash_of}
use Rattle.row_model.specs.contracts.row.Value as value_contract
use Rattle.row_model.specs.declared.row.Value.{Value}
use Rattle.row_model.specs.declared.row.Value.TheVariants.{Null}
use Rattle.row_model.specs.Reach.{Reach}
use Rattle.row_model.specs.Row.{Rises}
use Rattle.row_model.specs.Table.{Table}
use Rattle.schema_model.specs.Limit.{number_of_limit}
use Rattle.schema_model.specs.declared.limit.Limit.{Limit}
use Rattle.schema_model.specs.declared.model.walk_path.WalkPart.{WalkPart}
use Rattle.schema_model.specs.declared.schema.Schema.{Schema}
use Rattle.hol_paths.specs.declared.entries.Slot.{Slot}
use Rattle.hol_paths.specs.declared.reserved.Reserved.{Reserved}
use Rattle.hol_paths.specs.Reached.{AreRisingOf}
use Rattle.hol_paths.specs.Walked.{CountsOwners, Entry}

-- for how many slots there is room, the values, and the slots
pub record Slotted : Type 0 where
  pub room : ℕ
  pub values : List Value
  pub slots : List Slot

abbrev pub slot_code : Coded Slot
slot_code = code_by (ℕ × ℕ) (coded× coded_ℕ coded_ℕ) (λ s. (s.owner, s.number)) (λ p. record { owner = p.0; number = p.1 }) (λ _. refl)

abbrev pub slotted_code : Coded Slotted
slotted_code =
    code_by (ℕ × (List Value × List Slot)) (coded× coded_ℕ (coded× (coded_list (value_contract.the_row).coded) (coded_list slot_code)))
    (λ a. (a.room, (a.values, a.slots))) (λ p. record { room = p.0; values = p.1.0; slots = p.1.1 }) (λ _. refl)

-- the entry of a slot
abbrev pub entry_of : List Value → Slot → Entry
entry_of values slot = (slot.owner, get_or values slot.number Null)

-- the entries of slots
abbrev pub entries_of : List Value → List Slot → List Entry
entries_of values slots = map (entry_of values) slots

-- Each slot has a value.
abbrev pub AreKnown : List Value → List Slot → Type 0
AreKnown values slots = All (λ (slot : Slot). slot.number < length values) slots

-- the ordinal of the row of the slot at a place, if there is a slot
abbrev pub owner_at : List Slot → ℕ → Option ℕ
owner_at slots place = option_map (λ (slot : Slot). slot.owner) (slice_get slots place)

-- the number of the value of the slot at a place, if there is a slot
abbrev pub number_at : List Slot → ℕ → Option ℕ
number_at slots place = option_map (λ (slot : Slot). slot.number) (slice_get slots place)

-- the ordinal of the row of a slot
abbrev pub owner_in : Slot → ℕ
owner_in slot = slot.owner

-- a slot of no row, read where there is no slot
abbrev pub no_slot : Slot
no_slot = record { owner = 0; number = 0 }

-- the ordinal of the row of the slot at a place
abbrev pub owner_of : List Slot → ℕ → ℕ
owner_of slots place = (get_or slots place no_slot).owner

-- elements without those at some places, of which the last is taken first; the last element takes the place of one that is taken
abbrev pub without_places : {X : Type 0} → X → List ℕ → List X → List X
without_places d [] xs = xs
without_places d (place ∷ places) xs = swap_remove (without_places d places xs) place d

-- the slots without that at a place
abbrev pub without_slot : ℕ → List Slot → List Slot
without_slot place slots = swap_remove slots place no_slot

-- the slots without those at some places
abbrev pub without_slots : List ℕ → List Slot → List Slot
without_slots places slots = without_places no_slot places slots

-- The slots stand in the groups of their rows and in those of their values, and there is room for so many.
pub record AreSlotted (slots : List Slot) (capacity : ℕ) (owners numbers : Chained) (values : List Value) (room : ℕ) : Type 0 where
  pub few : length slots ≤ room
  pub places : room ≤ capacity
  pub owner_places : room ≤ owners.slots
  pub number_places : room ≤ numbers.slots
  pub owned : (place : ℕ) → hash_of owners place ≡ owner_at slots place
  pub numbered : (place : ℕ) → hash_of numbers place ≡ number_at slots place
  pub known : AreKnown values slots

-- ---- the next state

-- the entries of the next state
abbrev pub next_of : Slotted → Reserved → List Entry
next_of kept reserved = entries_of kept.values (without_slots reserved.leaving kept.slots ++ reserved.coming.items)

-- What is reserved: places of slots that leave, rising, and slots that come, for which there is room.
pub record IsReserved (kept : Slotted) (reserved : Reserved) : Type 0 where
  pub rises : Rises reserved.leaving
  pub there : All (λ place. place < length kept.slots) reserved.leaving
  pub known : AreKnown kept.values reserved.coming.items
  pub room : length kept.slots + length reserved.coming.items ≤ kept.room
  pub few : length kept.slots + length reserved.coming.items ≤ number_of_limit Limit.Entries + length reserved.leaving
  pub counts : CountsOwners (next_of kept reserved) reserved.keyed

-- There are no more entries than a walk index may keep, also once what is reserved is turned; and so many rows have an entry.
pub record IsWalkKept (kept : Slotted) (keyed : ℕ) (next : Option Reserved) : Type 0 where
  pub few : length kept.slots ≤ number_of_limit Limit.Entries
  pub counts : CountsOwners (entries_of kept.values kept.slots) keyed
  pub reserved : IfSome next (IsReserved kept)

-- So many of some numbers are different.
abbrev pub CountsOnce : List ℕ → ℕ → Type 0
CountsOnce numbers count = (rising : List ℕ) × AreRisingOf numbers rising × (count ≡ length rising)

-- These are the places of the entries of some rows, rising.
pub record AreLeaving (slots : List Slot) (removed leaving : List ℕ) : Type 0 where
  pub rises : Rises leaving
  pub are : (place : ℕ) → Contains leaving place ↔ ((owner : ℕ) × Contains removed owner × (owner_at slots place ≡ Some owner))

-- Some rows reach more values than so many, a value that two of them reach counted for both.
abbrev pub ReachMany : List Schema → Table → ℕ → List WalkPart → List ℕ → ℕ → Type 0
ReachMany schemas table type_index parts rows most =
    (entries : List Entry) × AllPairs (λ earlier later. earlier ≢ later) entries
    × ((ordinal : ℕ) (value : Value) → Contains entries (ordinal, value) → Contains rows ordinal × Reach schemas table type_index parts ordinal value) × (most < length entries)
