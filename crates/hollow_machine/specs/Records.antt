-- The records of a cycle, and which trees they give: as JSON, those under the name of each type of the model, types in model order. And those of a change: its
-- edited list.
use Rattle.std.specs.Prelude.{◌≡◌, ℕ, ℤ, List, [], ◌∷◌, ◌++◌, All, Bool, true, IsOk, IsSome, IsSomeAnd, None, Ok, Err, length, map, flat_map, slice_get, unwrap_or}
use Rattle.std.specs.List.{AllZip, range_with_len, zip}
use Rattle.std.specs.Option.{option_map_or, option_and_then}
use Rattle.serde_json.specs.Data.{Data, Items, no_items, item, Members, no_members, member}
use Rattle.serde_json.specs.Find.{as_array, as_object, get}
use Rattle.schema_model.specs.declared.model.path.Path.{Path}
use Rattle.schema_model.specs.declared.reason.Reason.{Reason}
use Rattle.schema_model.specs.declared.schema.Schema.{Schema}
use Rattle.schema_model.specs.Parts.{index_of_type}
use Rattle.row_model.specs.declared.row.Value.{Value}
use Rattle.row_model.specs.PlainTree.{PlainTree}
use Rattle.record_json.specs.ReadTree.{read_tree}
use Rattle.state_blobs.specs.Published.{Published}
use Rattle.hol_incremental.specs.Changes.{HaveKeys, HaveOwnKeys}
use Rattle.hol_incremental.specs.Edited.{IsEdited, Keys}
use Rattle.hol_incremental.specs.Roots.{AreKeyPaths, IsKeyed}
use Rattle.json_values.specs.KeyFrom.{SpellsKey}
use Rattle.hol_orders.specs.Parts.{AskedChange, AskedState}
use Rattle.hol_answers.specs.declared.refusal.Refusal.{Refusal}
use Rattle.hol_answers.specs.declared.refusal.Refusal.TheVariants.{BadRecord, NoType}

-- The records that a cycle adds: as the JSON of an order, or as trees, each with its type; or those of the last state, of which some are put and others removed:
-- the JSON of the records that are put, and that of the primary keys of those that are removed.
pub data Adding : Type 0 where
  spelled : Data → Adding
  given : List (ℕ × PlainTree) → Adding
  edited : Data → Data → Adding

-- What a cycle asks for: the version and the tag that the next state is to have, the records that it adds, and whether its snapshot is to be put.
pub record AskedCycle : Type 0 where
  pub version : ℕ
  pub tag : ℤ
  pub add : Adding
  pub snapshot : Bool

-- what an order asks for: where it does not say whether the snapshot is put, it is
abbrev pub asked_cycle : AskedState → AskedCycle
asked_cycle asked = record { version = asked.version; tag = asked.tag; add = spelled asked.add; snapshot = unwrap_or asked.snapshot true }

-- what a change asks for: its snapshot is put
abbrev pub cycle_of_change : AskedChange → AskedCycle
cycle_of_change asked = record { version = asked.version; tag = asked.tag; add = edited asked.put asked.remove; snapshot = true }

-- A record of a cycle: the index of its type, its place among the records of the type, from 0, and its JSON.
pub record Entry : Type 0 where
  pub type_index : ℕ
  pub place : ℕ
  pub value : Data

-- the items of an array, as a list
abbrev pub listed : Items → List Data
listed no_items = []
listed (item value items) = value ∷ listed items

-- the records under a name, none where there is no such member
abbrev pub values_under : Data → List ℕ → List Data
values_under add name = option_map_or listed (option_and_then as_array (get name add)) []

-- each item beside its place, from 0
abbrev pub placed : {A : Type 0} → List A → List (ℕ × A)
placed xs = zip (range_with_len 0 (length xs)) xs

-- the records of the type of this index, at their places
abbrev pub entries_at : ℕ → List Data → List Entry
entries_at type_index values = map (λ at. record { type_index = type_index; place = at.0; value = at.1 }) (placed values)

-- the records of a type: its index and schema
abbrev pub entries_of_type : Data → ℕ × Schema → List Entry
entries_of_type add typed = entries_at typed.0 (values_under add typed.1.name)

-- the records of all types
abbrev pub entries : List Schema → Data → List Entry
entries schemas add = flat_map (entries_of_type add) (placed schemas)

-- the record gives this tree, and has its type
abbrev pub GivesTree : List Schema → Entry → ℕ × PlainTree → Type 0
GivesTree schemas entry typed = (typed.0 ≡ entry.type_index) × (read_tree schemas entry.type_index entry.value ≡ Ok typed.1)

-- Each record gives a tree, and these are the trees, each with its type.
abbrev pub AreRead : List Schema → List Entry → List (ℕ × PlainTree) → Type 0
AreRead schemas recorded trees = AllZip (GivesTree schemas) recorded trees

-- The first record that gives no tree has this type and place, and this is the reason.
pub record IsFirstUnread (schemas : List Schema) (recorded : List Entry) (type_index place : ℕ) (reason : Reason) : Type 0 where
  pub before : List Entry
  pub value : Data
  pub rest : List Entry
  pub split : recorded ≡ before ++ record { type_index = type_index; place = place; value = value } ∷ rest
  pub read : All (λ entry. IsOk (read_tree schemas entry.type_index entry.value)) before
  pub unread : read_tree schemas type_index value ≡ Err reason

-- the names of members, in their order
abbrev pub names_in : Members → List (List ℕ)
names_in no_members = []
names_in (member name value members) = name ∷ names_in members

-- the names under which records stand, in the order of the object, which is that of their bytes
abbrev pub names_of : Data → List (List ℕ)
names_of add = option_map_or names_in (as_object add) []

-- Each name is that of a type.
abbrev pub AreTypes : List Schema → Data → Type 0
AreTypes schemas add = All (λ name. IsSome (index_of_type schemas name)) (names_of add)

-- The first name that is that of no type.
pub record IsFirstUnknown (schemas : List Schema) (add : Data) (name : List ℕ) : Type 0 where
  pub before : List (List ℕ)
  pub rest : List (List ℕ)
  pub split : names_of add ≡ before ++ name ∷ rest
  pub known : All (λ earlier. IsSome (index_of_type schemas earlier)) before
  pub unknown : index_of_type schemas name ≡ None

-- The JSON gives these trees, each with its type: each name is that of a type.
pub record SpellsTrees (schemas : List Schema) (add : Data) (trees : List (ℕ × PlainTree)) : Type 0 where
  pub types : AreTypes schemas add
  pub read : AreRead schemas (entries schemas add) trees

-- the array gives this primary key of its type, and has its type
abbrev pub GivesKey : List Schema → Entry → ℕ × List Value → Type 0
GivesKey schemas entry typed = (typed.0 ≡ entry.type_index) × ((paths : List Path) × AreKeyPaths schemas entry.type_index paths × SpellsKey schemas paths entry.value typed.1)

-- The JSON gives these primary keys, each with its type: each name is that of a type.
pub record SpellsKeys (schemas : List Schema) (remove : Data) (removes : Keys) : Type 0 where
  pub types : AreTypes schemas remove
  pub read : AllZip (GivesKey schemas) (entries schemas remove) removes

-- Each name is that of a type with a primary key.
abbrev pub AreKeyedTypes : List Schema → Data → Type 0
AreKeyedTypes schemas json = All (λ name. IsSomeAnd (index_of_type schemas name) (IsKeyed schemas)) (names_of json)

-- The JSON gives the records that are put and the primary keys of those that are removed: all types have a primary key, each record has one, and no two of a
-- type have the same.
pub record SpellsChange (schemas : List Schema) (put remove : Data) (puts : List (ℕ × PlainTree)) (removes : Keys) : Type 0 where
  pub put_types : AreKeyedTypes schemas put
  pub remove_types : AreKeyedTypes schemas remove
  pub records : SpellsTrees schemas put puts
  pub keyed : HaveKeys schemas puts
  pub own : HaveOwnKeys schemas puts
  pub keys : SpellsKeys schemas remove removes

-- The records give these trees behind the producer's last state.
abbrev pub GivesTrees : Published → Adding → List (ℕ × PlainTree) → Type 0
GivesTrees last (spelled add) trees = SpellsTrees last.model add trees
GivesTrees last (given records) trees = trees ≡ records
GivesTrees last (edited put remove) trees =
    (puts : List (ℕ × PlainTree)) × (removes : Keys) × SpellsChange last.model put remove puts removes × IsEdited last.model last.rows puts removes trees

-- The records are JSON, of which this holds.
abbrev pub IsSpelledAnd : Adding → (Data → Type 0) → Type 0
IsSpelledAnd (spelled add) P = P add
IsSpelledAnd (given records) P = ⊥
IsSpelledAnd (edited put remove) P = ⊥

-- Why the records give no trees: a name is that of no type; or a record, of this type, gives none.
abbrev pub GivesNoTrees : List Schema → Adding → Refusal → Type 0
GivesNoTrees schemas add (NoType name) = IsSpelledAnd add (λ json. IsFirstUnknown schemas json name)
GivesNoTrees schemas add (BadRecord fault) =
    IsSpelledAnd add (λ json. AreTypes schemas json
    × ((type_index : ℕ) × IsSomeAnd (slice_get schemas type_index) (λ schema. schema.name ≡ fault.type_name)
    × IsFirstUnread schemas (entries schemas json) type_index fault.index fault.reason))
GivesNoTrees schemas add _ = ⊥
