-- The keys of the records that a change puts, and which of them stands twice.
use Rattle.std.specs.Prelude.{◌≡◌, ◌<◌, ℕ, List, Option, None, Some, IsSomeAnd, MatchOption, option_map, slice_get}
use Rattle.std.specs.List.{AllZip}
use Rattle.linked_slots.specs.Chained.{Chained, hash_of}
use Rattle.row_hash.specs.Hash.{values_hash}
use Rattle.schema_model.specs.declared.schema.Schema.{Schema}
use Rattle.hol_answers.specs.declared.refusal.Refusal.{Refusal}
use Rattle.hol_answers.specs.declared.refusal.Refusal.TheVariants.{KeyTwice, NoKey}
use Rattle.hol_orders.specs.Parts.{AskedChange}
use Rattle.hollow_machine.specs.ChangeOrder.{HasKey, IsNoChange, IsOfName}
use Rattle.hollow_machine.specs.Records.{Entry, entries}
use Rattle.change_orders.specs.declared.keyed_records.KeyAt.{KeyAt}

-- the keys are those of one type, and are equal
abbrev pub HaveSameKey : KeyAt → KeyAt → Type 0
HaveSameKey one other = (one.type_index ≡ other.type_index) × (one.key ≡ other.key)

-- the key at a place of the list is that of a record of the same type before it
abbrev pub IsSameAt : List KeyAt → ℕ → ℕ → Type 0
IsSameAt found first second = IsSomeAnd (slice_get found first) (λ one. IsSomeAnd (slice_get found second) (λ other. HaveSameKey one other))

-- no key of the first so many stands there twice
abbrev pub AreApartTo : List KeyAt → ℕ → Type 0
AreApartTo found many = (first second : ℕ) → first < second → second < many → ¬ IsSameAt found first second

-- No key stands twice; or the first one that does, and the one before it.
abbrev pub TellsAgain : List KeyAt → Option (ℕ × ℕ) → Type 0
TellsAgain found None = (first second : ℕ) → first < second → ¬ IsSameAt found first second
TellsAgain found (Some places) = (places.0 < places.1) × IsSameAt found places.0 places.1 × AreApartTo found places.1

-- the hashes of keys are linked under their places
abbrev pub AreHashed : List KeyAt → Chained → Type 0
AreHashed found chains = (place : ℕ) → hash_of chains place ≡ option_map (λ (one : KeyAt). values_hash one.key) (slice_get found place)

-- the key at a place is that of a record of the same type
abbrev pub HasKeyOf : List KeyAt → KeyAt → ℕ → Type 0
HasKeyOf found one place = IsSomeAnd (slice_get found place) (λ other. HaveSameKey other one)

-- A place with the key of a record of the same type; none exactly where no place has it.
abbrev pub FindsKey : List KeyAt → KeyAt → Option ℕ → Type 0
FindsKey found one at = MatchOption at ((place : ℕ) → ¬ HasKeyOf found one place) (HasKeyOf found one)

-- the key is that of a record, with the type and the place of the record
pub record IsKeyOf (schemas : List Schema) (entry : Entry) (one : KeyAt) : Type 0 where
  pub type : one.type_index ≡ entry.type_index
  pub place : one.place ≡ entry.place
  pub key : HasKey schemas entry one.key

-- Each record that is put has a key, and these are the keys; or why not.
abbrev pub TellsFound : List Schema → AskedChange → List KeyAt → Option Refusal → Type 0
TellsFound schemas asked found None = AllZip (IsKeyOf schemas) (entries schemas asked.put) found
TellsFound schemas asked found (Some refusal) = IsNoChange schemas asked refusal

-- the refusal of a record without a key names its type and place
abbrev pub IsKeyless : List Schema → ℕ → ℕ → Refusal → Type 0
IsKeyless schemas type_index place (NoKey name index) = IsOfName schemas type_index name × (index ≡ place)
IsKeyless schemas type_index place _ = ⊥

-- the refusal names the type and the places of two records
abbrev pub NamesTwo : List Schema → KeyAt → KeyAt → Refusal → Type 0
NamesTwo schemas one other (KeyTwice keys) = IsOfName schemas other.type_index keys.type_name × (keys.first ≡ one.place) × (keys.second ≡ other.place)
NamesTwo schemas one other _ = ⊥

-- No key stands twice; or the refusal of the first one that does.
abbrev pub TellsTwice : List Schema → List KeyAt → Option Refusal → Type 0
TellsTwice schemas found None = TellsAgain found None
TellsTwice schemas found (Some refusal) =
    (places : ℕ × ℕ) × TellsAgain found (Some places)
    × IsSomeAnd (slice_get found places.0) (λ one. IsSomeAnd (slice_get found places.1) (λ other. NamesTwo schemas one other refusal))
