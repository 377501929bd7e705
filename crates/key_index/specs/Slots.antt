-- What stands under each ordinal, the keys of the rows that slots make, and those of the next state.
use Rattle.std.specs.Prelude.{refl, ◌≡◌, ◌↔◌, ◌+◌, ◌<◌, ◌≤◌, ◌^◌, ℕ, Bool, true, false, List, [], ◌∷◌, ◌++◌, Option, Some, None, Contains, IsTrue, max, length, map, slice_get, count_by, fold, replicate, option_and_then, option_map, is_some, nat_eq, nat_lt, ℤ, pos, negsuc, if◌then◌else◌}
use Rattle.std.specs.Coded.{Coded, code_by, coded×, coded_bool, coded_ℕ}
use Rattle.std.specs.FinMap.{from_entries, insert, remove}
use Rattle.linked_slots.specs.Chained.{Chained, IsBuckets, hash_of}
use Rattle.row_hash.specs.Hash.{values_hash}
use Rattle.row_model.specs.declared.row.Value.{Value}
use Rattle.row_model.specs.Row.{Rises}
use Rattle.key_index.specs.declared.reserved.AddedRow.{AddedRow}
use Rattle.key_index.specs.declared.reserved.Reserved.{Reserved}
use Rattle.key_index.specs.declared.slot.Slot.{Slot}
use Rattle.key_index.specs.declared.slot.Slot.TheVariants.{Free, Keyless, One, More}
use Rattle.key_index.specs.declared.slot.SmallSlot.{SmallSlot}
use Rattle.key_index.specs.declared.key_slots.KeySlots.{KeySlots}
use Rattle.key_index.specs.Indexed.{KeyMap, key_map_code}

-- for how many ordinals there is room, whether it is for keys of any kind, and the keys of the rows
pub record Roomy : Type 0 where
  pub room : ℕ
  pub large : Bool
  pub keys : KeyMap

abbrev pub roomy_code : Coded Roomy
roomy_code =
    code_by (ℕ × (Bool × KeyMap)) (coded× coded_ℕ (coded× coded_bool key_map_code)) (λ r. (r.room, (r.large, r.keys))) (λ p. record { room = p.0; large = p.1.0; keys = p.1.1 }) (λ _. refl)

-- ---- one slot

-- the key of the row there, if there is a row
abbrev pub row_key : Slot → Option (Option (List Value))
row_key Free = None
row_key Keyless = Some None
row_key (One value) = Some (Some (value ∷ []))
row_key (More values) = Some (Some values)

-- the key, if there is a row that has one
abbrev pub key_in : Slot → Option (List Value)
key_in Free = None
key_in Keyless = None
key_in (One value) = Some (value ∷ [])
key_in (More values) = Some values

-- the same in a slot for keys of any kind
abbrev pub slot_of : SmallSlot → Slot
slot_of SmallSlot.Free = Free
slot_of SmallSlot.Keyless = Keyless
slot_of (SmallSlot.Int number) = One (Value.Int number)
slot_of (SmallSlot.Long number) = One (Value.Long number)
slot_of (SmallSlot.Bool flag) = One (Value.Bool flag)
slot_of (SmallSlot.Ref ordinal) = One (Value.Ref ordinal)

-- whether a number has 32 bits at most, one of them for its sign
abbrev pub is_short : ℤ → Bool
is_short (pos number) = nat_lt number (2 ^ 31)
is_short (negsuc number) = nat_lt number (2 ^ 31)

-- whether a value has 32 bits at most
abbrev pub is_small_value : Value → Bool
is_small_value Value.Null = false
is_small_value (Value.Int number) = true
is_small_value (Value.Long number) = is_short number
is_small_value (Value.Bool flag) = true
is_small_value (Value.Text units) = false
is_small_value (Value.Bytes bytes) = false
is_small_value (Value.Ref ordinal) = true

-- whether a small slot has room for it
abbrev pub is_small : Slot → Bool
is_small Free = true
is_small Keyless = true
is_small (One value) = is_small_value value
is_small (More values) = false

-- whether such slots have room for it: those for keys of any kind, or small ones
abbrev pub fits : Bool → Slot → Bool
fits large slot = (if is_small slot then true else large)

-- whether there is a row that has a key
abbrev pub has_key : Slot → Bool
has_key slot = is_some (key_in slot)

-- keys with what stands under an ordinal in the place of what stood there
abbrev pub placed : KeyMap → ℕ → Option (Option (List Value)) → KeyMap
placed keys ordinal None = remove keys ordinal
placed keys ordinal (Some key) = insert keys ordinal key

-- ---- all slots

-- what stands under each ordinal
abbrev pub slots_in : KeySlots → List Slot
slots_in (KeySlots.Small slots) = map slot_of slots.items
slots_in (KeySlots.Large slots) = slots.items

-- whether they have room for keys of any kind
abbrev pub is_large : KeySlots → Bool
is_large (KeySlots.Small slots) = false
is_large (KeySlots.Large slots) = true

-- what a reading of the slots gives under an ordinal
abbrev pub read_at : {X : Type 0} → (Slot → Option X) → List Slot → ℕ → Option X
read_at read slots ordinal = option_and_then read (slice_get slots ordinal)

-- a reading under a place, if there is one
abbrev pub with_place : {X : Type 0} → ℕ → Option X → List (ℕ × X) → List (ℕ × X)
with_place place None entries = entries
with_place place (Some x) entries = (place, x) ∷ entries

-- what a reading of the slots gives, each with its place, from one place on
abbrev pub entries_from : {X : Type 0} → (Slot → Option X) → ℕ → List Slot → List (ℕ × X)
entries_from read place [] = []
entries_from read place (slot ∷ slots) = with_place place (read slot) (entries_from read (place + 1) slots)

-- the keys of the rows
unfoldable pub keys_of : List Slot → KeyMap
keys_of slots = from_entries (entries_from row_key 0 slots)

-- free slots stand behind those that were there, up to a number of them
pub record Widens (slots : List Slot) (room : ℕ) (more : List Slot) : Type 0 where
  pub count : ℕ
  pub padded : more ≡ slots ++ replicate count Free
  pub short : length more ≤ max (length slots) room

-- ---- the chains of the keys

-- one, if it is so
abbrev pub one_if : Bool → ℕ
one_if b = (if b then 1 else 0)

-- no number stands there twice
abbrev pub AreOnce : List ℕ → Type 0
AreOnce numbers = (number : ℕ) → count_by (nat_eq number) numbers ≤ 1

-- The same numbers, rising.
pub record AreSorted (numbers sorted : List ℕ) : Type 0 where
  pub rising : Rises sorted
  pub same : (number : ℕ) → Contains sorted number ↔ Contains numbers number

-- the hash of a key, if there is one
abbrev pub key_hash : Option (List Value) → Option ℕ
key_hash key = option_map values_hash key

-- the keys' hashes are linked under the rows' ordinals
abbrev pub AreHashed : List Slot → Chained → Type 0
AreHashed slots chains = (ordinal : ℕ) → hash_of chains ordinal ≡ key_hash (read_at key_in slots ordinal)

-- The slots and the chains of the keys' hashes agree, there is a chain place for each slot, and so many slots have a key.
pub record AreKept (slots : List Slot) (chains : Chained) (buckets keyed : ℕ) : Type 0 where
  pub few : length slots < 2 ^ 32
  pub room : length slots ≤ chains.slots
  pub buckets_are : length chains.chains ≡ buckets
  pub powered : IsBuckets buckets
  pub bucketed : 0 < length slots → 0 < buckets
  pub hashed : AreHashed slots chains
  pub count : keyed ≡ count_by has_key slots

-- ---- the next state

-- keys without some ordinals
abbrev pub without : KeyMap → List ℕ → KeyMap
without keys ordinals = fold (λ left ordinal. remove left ordinal) keys ordinals

-- keys with those of further ordinals
abbrev pub with_keys : (ℕ → Option (List Value)) → KeyMap → List ℕ → KeyMap
with_keys key keys ordinals = fold (λ more ordinal. insert more ordinal (key ordinal)) keys ordinals

-- keys with those of rows that come
abbrev pub with_added : KeyMap → List AddedRow → KeyMap
with_added keys rows = fold (λ more (row : AddedRow). placed more row.ordinal (row_key row.slot)) keys rows

-- the ordinal of a row that comes, and what stands under it
abbrev pub added_row : AddedRow → ℕ × Option (Option (List Value))
added_row row = (row.ordinal, row_key row.slot)

-- a row with its key under an ordinal
abbrev pub keyed_row : (ℕ → Option (List Value)) → ℕ → ℕ × Option (Option (List Value))
keyed_row key ordinal = (ordinal, Some (key ordinal))

-- there is room for a row that comes
abbrev pub Fits : Roomy → AddedRow → Type 0
Fits rows row = (row.ordinal < rows.room) × IsTrue (fits rows.large row.slot)

-- the keys of the next state
abbrev pub next_of : KeyMap → Reserved → KeyMap
next_of keys reserved = with_added (without keys reserved.removed) reserved.added
