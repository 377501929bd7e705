-- What an index keeps: the keys of the rows of a type, and those of the next state once they are reserved.
use Rattle.std.specs.Prelude.{refl, ◌≡◌, ◌↔◌, ◌+◌, ◌⊎◌, ℕ, List, length, Option, Some, None, IsSome, IsSomeAnd, MatchOption, All, Contains}
use Rattle.std.specs.Coded.{Coded, code_by, coded×, coded_ℕ, coded_list, coded_option}
use Rattle.std.specs.FinMap.{FinMap, code, get}
use Rattle.std.specs.Ordering.{nat_cmp}
use Rattle.schema_model.specs.contracts.model.path.Path as path_contract
use Rattle.row_model.specs.contracts.row.Value as value_contract
use Rattle.schema_model.specs.declared.model.path.Path.{Path}
use Rattle.row_model.specs.declared.row.Value.{Value}
use Rattle.schema_model.specs.declared.schema.Schema.{Schema}
use Rattle.row_model.specs.Key.{key_of}
use Rattle.row_model.specs.Row.{Rises}
use Rattle.row_model.specs.Table.{Table, IsLive, row_at}

-- under each indexed ordinal the key of its row, none where the row has none
abbrev pub KeyMap : Type 0
KeyMap = FinMap nat_cmp (Option (List Value))

abbrev pub key_map_code : Coded KeyMap
key_map_code = code coded_ℕ (coded_option (coded_list (value_contract.the_row).coded))

-- An index: the type and the paths of its keys, the keys of the indexed rows, and those that are reserved.
pub record Indexed : Type 0 where
  pub type_index : ℕ
  pub paths : List Path
  pub keys : KeyMap
  pub next : Option KeyMap

abbrev pub indexed_code : Coded Indexed
indexed_code =
    code_by (ℕ × (List Path × (KeyMap × Option KeyMap))) (coded× coded_ℕ (coded× (coded_list (path_contract.the_row).coded) (coded× key_map_code (coded_option key_map_code))))
    (λ a. (a.type_index, (a.paths, (a.keys, a.next)))) (λ p. record { type_index = p.0; paths = p.1.0; keys = p.1.1.0; next = p.1.1.1 }) (λ _. refl)

-- These are the keys of the live rows of a type along some paths.
abbrev pub AreKeysOf : List Schema → Table → ℕ → List Path → KeyMap → Type 0
AreKeysOf schemas table type_index paths keys =
    (ordinal : ℕ) → MatchOption (row_at table type_index ordinal) (get keys ordinal ≡ None) (λ row. get keys ordinal ≡ Some (key_of schemas table type_index paths ordinal))

-- The index is that of a type by some paths, over the rows of a state.
pub record IsIndexBy (schemas : List Schema) (table : Table) (type_index : ℕ) (paths : List Path) (index : Indexed) : Type 0 where
  pub type_is : index.type_index ≡ type_index
  pub paths_are : index.paths ≡ paths
  pub keys_are : AreKeysOf schemas table type_index paths index.keys

-- These are the indexed ordinals under which a row has the key, rising.
pub record AreUnder (keys : KeyMap) (key : List Value) (ordinals : List ℕ) : Type 0 where
  pub rising : Rises ordinals
  pub are : (ordinal : ℕ) → Contains ordinals ordinal ↔ (get keys ordinal ≡ Some (Some key))

-- So many of the indexed rows have a key.
abbrev pub CountsKeys : KeyMap → ℕ → Type 0
CountsKeys keys count =
    (ordinals : List ℕ) × Rises ordinals × ((ordinal : ℕ) → Contains ordinals ordinal ↔ IsSomeAnd (get keys ordinal) (λ key. IsSome key)) × (count ≡ length ordinals)

-- A count rose by the number of the live rows of a type.
abbrev pub CountsLive : Table → ℕ → ℕ → ℕ → Type 0
CountsLive table t before after = (ordinals : List ℕ) × Rises ordinals × ((ordinal : ℕ) → Contains ordinals ordinal ↔ IsLive table t ordinal) × (after ≡ before + length ordinals)

-- The live rows of a state are the indexed ones without those that are removed and with those that are added, and each that stays has its key.
pub record Follows (keys : KeyMap) (schemas : List Schema) (table : Table) (type_index : ℕ) (paths : List Path) (removed added : List ℕ) : Type 0 where
  pub removed_rise : Rises removed
  pub added_rise : Rises added
  pub removed_there : All (λ ordinal. IsSome (get keys ordinal)) removed
  pub added_free : All (λ ordinal. get keys ordinal ≡ None) added
  pub live : (ordinal : ℕ) → IsLive table type_index ordinal ↔ ((IsSome (get keys ordinal) × ¬ Contains removed ordinal) ⊎ Contains added ordinal)
  pub stays : (ordinal : ℕ) → IsLive table type_index ordinal → ¬ Contains added ordinal → get keys ordinal ≡ Some (key_of schemas table type_index paths ordinal)

-- Two states agree: what is live in both has one row.
abbrev pub HaveOneRow : Table → Table → Type 0
HaveOneRow old new = (t ordinal : ℕ) → IsLive old t ordinal → IsLive new t ordinal → row_at old t ordinal ≡ row_at new t ordinal
