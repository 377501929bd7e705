-- What a walk index keeps: the entries of its path, pairs of a row's ordinal and a value that the row reaches, each once; and how they change over a step.
use Rattle.std.specs.Coded.{Coded, code_by, coded×, coded_ℕ, coded_list, coded_option}
use Rattle.schema_model.specs.contracts.model.walk_path.WalkPath as path_contract
use Rattle.row_model.specs.contracts.row.Value as value_contract
use Rattle.std.specs.Prelude.{refl, ◌≡◌, ◌≢◌, ◌↔◌, ◌⊎◌, ◌<◌, ℕ, List, Option, AllPairs, Contains, length}
use Rattle.schema_model.specs.Limit.{number_of_limit}
use Rattle.schema_model.specs.declared.limit.Limit.TheVariants.{Entries}
use Rattle.schema_model.specs.declared.model.walk_path.WalkPart.{WalkPart}
use Rattle.schema_model.specs.declared.model.walk_path.WalkPath.{WalkPath}
use Rattle.schema_model.specs.declared.schema.Schema.{Schema}
use Rattle.hol_paths.specs.declared.fault.WalkFault.{WalkFault}
use Rattle.hol_paths.specs.declared.fault.WalkFault.TheVariants.{Memory}
use Rattle.row_model.specs.declared.row.Value.{Value}
use Rattle.row_model.specs.Reach.{AreEntries, Reach}
use Rattle.row_model.specs.Row.{Rises}
use Rattle.row_model.specs.Table.{IsLive, Table}

-- a row's ordinal, and a value that the row reaches
abbrev pub Entry : Type 0
Entry = ℕ × Value

-- A walk index: its path, its entries, and those that are reserved.
pub record Walked : Type 0 where
  pub path : WalkPath
  pub entries : List Entry
  pub next : Option (List Entry)

abbrev pub entries_code : Coded (List Entry)
entries_code = coded_list (coded× coded_ℕ (value_contract.the_row).coded)

abbrev pub walked_code : Coded Walked
walked_code =
    code_by (WalkPath × (List Entry × Option (List Entry))) (coded× (path_contract.the_row).coded (coded× entries_code (coded_option entries_code)))
    (λ a. (a.path, (a.entries, a.next))) (λ p. record { path = p.0; entries = p.1.0; next = p.1.1 }) (λ _. refl)

-- The index is that of a path, over the rows of a state.
pub record IsWalkIndexOf (schemas : List Schema) (table : Table) (path : WalkPath) (index : Walked) : Type 0 where
  pub path_is : index.path ≡ path
  pub entries_are : AreEntries schemas table path.type_index path.parts index.entries

-- These are the ordinals that have an entry with the value, rising: what `matches` answers.
pub record AreWith (entries : List Entry) (value : Value) (ordinals : List ℕ) : Type 0 where
  pub rising : Rises ordinals
  pub are : (ordinal : ℕ) → Contains ordinals ordinal ↔ Contains entries (ordinal, value)

-- The rows have more entries along the parts than an index may keep: so many different pairs of a live ordinal and a value that its row reaches.
abbrev pub HasManyEntries : List Schema → Table → ℕ → List WalkPart → Type 0
HasManyEntries schemas table type_index parts =
    (entries : List Entry) × AllPairs (λ earlier later. earlier ≢ later) entries
    × ((ordinal : ℕ) (value : Value) → Contains entries (ordinal, value) → IsLive table type_index ordinal × Reach schemas table type_index parts ordinal value) × (number_of_limit Entries < length entries)

-- ---- over a step

-- What `reserve` asks: the live rows of a state are those of the entries without those that are removed and with those that are added, and each that stays
-- reaches what it reached.
pub record FollowsWalk (entries : List Entry) (schemas : List Schema) (table : Table) (type_index : ℕ) (parts : List WalkPart) (removed added : List ℕ) : Type 0 where
  pub once : AllPairs (λ earlier later. earlier ≢ later) entries
  pub removed_rise : Rises removed
  pub added_rise : Rises added
  pub added_live : (ordinal : ℕ) → Contains added ordinal → IsLive table type_index ordinal
  pub kept : (ordinal : ℕ) (value : Value) → Contains entries (ordinal, value) → ¬ Contains removed ordinal → IsLive table type_index ordinal × Reach schemas table type_index parts ordinal value
  pub apart : (ordinal : ℕ) (value : Value) → Contains entries (ordinal, value) → ¬ Contains added ordinal
  pub stays : (ordinal : ℕ) (value : Value) → IsLive table type_index ordinal → Reach schemas table type_index parts ordinal value
      → (Contains entries (ordinal, value) × ¬ Contains removed ordinal) ⊎ Contains added ordinal

-- What `build` and `reserve` may answer at any time: memory was refused.
abbrev pub IsFree : WalkFault → Type 0
IsFree Memory = Unit {0}
IsFree WalkFault.Entries = ⊥

-- So many ordinals have an entry.
abbrev pub CountsOwners : List Entry → ℕ → Type 0
CountsOwners entries count =
    (ordinals : List ℕ) × AllPairs (λ earlier later. earlier ≢ later) ordinals × ((ordinal : ℕ) → Contains ordinals ordinal ↔ ((value : Value) × Contains entries (ordinal, value))) × (count ≡ length ordinals)

-- These are the entries of the rows that come.
pub record AreAdded (schemas : List Schema) (table : Table) (type_index : ℕ) (parts : List WalkPart) (added : List ℕ) (entries : List Entry) : Type 0 where
  pub once : AllPairs (λ earlier later. earlier ≢ later) entries
  pub are : (ordinal : ℕ) (value : Value) → Contains entries (ordinal, value) ↔ (Contains added ordinal × Reach schemas table type_index parts ordinal value)

-- What `update` does: the entries of rows that are removed go, and those of rows that are added come.
pub record IsTurned (entries : List Entry) (removed : List ℕ) (added turned : List Entry) : Type 0 where
  pub once : AllPairs (λ earlier later. earlier ≢ later) turned
  pub are : (ordinal : ℕ) (value : Value) → Contains turned (ordinal, value) ↔ ((Contains entries (ordinal, value) × ¬ Contains removed ordinal) ⊎ Contains added (ordinal, value))

-- The live rows of a type in one state are those of another without those that are removed and with those that are added, which are new.
pub record IsStepOf (old new : Table) (type_index : ℕ) (removed added : List ℕ) : Type 0 where
  pub removed_rise : Rises removed
  pub added_rise : Rises added
  pub added_free : (ordinal : ℕ) → Contains added ordinal → ¬ IsLive old type_index ordinal
  pub live : (ordinal : ℕ) → IsLive new type_index ordinal ↔ ((IsLive old type_index ordinal × ¬ Contains removed ordinal) ⊎ Contains added ordinal)

-- These are the live ordinals of a type, rising.
pub record AreLiveOf (table : Table) (type_index : ℕ) (ordinals : List ℕ) : Type 0 where
  pub rising : Rises ordinals
  pub are : (ordinal : ℕ) → Contains ordinals ordinal ↔ IsLive table type_index ordinal
