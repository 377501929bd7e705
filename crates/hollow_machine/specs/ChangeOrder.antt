-- The order `change`: what it answers, and the machine behind it. It is the cycle of the edited list.
use Rattle.std.specs.Prelude.{◌≡◌, ◌<◌, ◌≤◌, ◌⊎◌, ◌++◌, ◌∷◌, ℕ, List, [], All, Contains, None, Ok, IsSomeAnd, slice_get}
use Rattle.serde_json.specs.Data.{Data}
use Rattle.hol_io.specs.Store.{Store}
use Rattle.schema_model.specs.declared.schema.Schema.{Schema}
use Rattle.row_model.specs.declared.row.Value.{Value}
use Rattle.row_model.specs.PlainTree.{PlainTree}
use Rattle.record_json.specs.ReadTree.{read_tree}
use Rattle.state_blobs.specs.Published.{Published}
use Rattle.hol_incremental.specs.Changes.{CountsMissing, HaveKeys, HaveOwnKeys}
use Rattle.hol_incremental.specs.Edited.{Keys}
use Rattle.hol_incremental.specs.Roots.{IsKeyed, IsTreeKey}
use Rattle.hol_orders.specs.Parts.{AskedChange}
use Rattle.hol_answers.specs.declared.refusal.Refusal.{Refusal}
use Rattle.hol_answers.specs.declared.refusal.Refusal.TheVariants.{BadKey, BadPath, BadRecord, KeyTwice, NoKey, NoModel, NoType, WrongKind}
use Rattle.hol_answers.specs.declared.reply.Reply.{Reply}
use Rattle.hol_answers.specs.declared.reply.Reply.TheVariants.{Change, Refused}
use Rattle.hollow_machine.specs.CycleOrder.{RefusesAfter, SucceedsAfter}
use Rattle.hollow_machine.specs.Follow.{MayFollow}
use Rattle.hollow_machine.specs.Forms.{OrderForm, moving}
use Rattle.hollow_machine.specs.KeyPaths.{HasShape, IsObject}
use Rattle.hollow_machine.specs.Records.{AreKeyedTypes, AreRead, AreTypes, Entry, IsFirstUnknown, IsFirstUnread, SpellsKeys, cycle_of_change, entries, names_of}
use Rattle.hollow_machine.specs.State.{Machine}

-- the type at an index has this name
abbrev pub IsOfName : List Schema → ℕ → List ℕ → Type 0
IsOfName schemas t name = IsSomeAnd (slice_get schemas t) (λ schema. schema.name ≡ name)

-- ---- the types

-- Each name in either list is that of a type; and each is that of a type with a primary key.
abbrev pub AreAllTypes : List Schema → AskedChange → Type 0
AreAllTypes schemas asked = AreTypes schemas asked.put × AreTypes schemas asked.remove

abbrev pub AreAllKeyed : List Schema → AskedChange → Type 0
AreAllKeyed schemas asked = AreAllTypes schemas asked × AreKeyedTypes schemas asked.put × AreKeyedTypes schemas asked.remove

-- One of the two lists names the type at an index.
abbrev pub IsGivenType : List Schema → AskedChange → ℕ → Type 0
IsGivenType schemas asked t = IsSomeAnd (slice_get schemas t) (λ schema. Contains (names_of asked.put) schema.name ⊎ Contains (names_of asked.remove) schema.name)

-- The first type, in model order, that one of the two lists names and that has no primary key.
pub record IsFirstUnkeyed (schemas : List Schema) (asked : AskedChange) (type_index : ℕ) : Type 0 where
  pub named : IsGivenType schemas asked type_index
  pub unkeyed : ¬ IsKeyed schemas type_index
  pub earlier : (before : ℕ) → before < type_index → IsGivenType schemas asked before → IsKeyed schemas before

-- ---- the records that are put

-- the record has this primary key
abbrev pub HasKey : List Schema → Entry → List Value → Type 0
HasKey schemas entry key = (tree : PlainTree) × (read_tree schemas entry.type_index entry.value ≡ Ok tree) × IsTreeKey schemas entry.type_index tree key

-- The first record that has no key has this type and place.
pub record IsFirstKeyless (schemas : List Schema) (recorded : List Entry) (type_index place : ℕ) : Type 0 where
  pub before : List Entry
  pub value : Data
  pub rest : List Entry
  pub split : recorded ≡ before ++ record { type_index = type_index; place = place; value = value } ∷ rest
  pub keyed : All (λ entry. (key : List Value) × HasKey schemas entry key) before
  pub keyless : (key : List Value) → ¬ HasKey schemas (record { type_index = type_index; place = place; value = value }) key

-- the record of a type at a place has this key
abbrev pub HasKeyAt : List Schema → List Entry → ℕ → ℕ → List Value → Type 0
HasKeyAt schemas recorded t place key = (value : Data) × Contains recorded (record { type_index = t; place = place; value = value }) × HasKey schemas (record { type_index = t; place = place; value = value }) key

-- the records of a type at two places, the lesser one first, have one key
abbrev pub HaveOneKey : List Schema → List Entry → ℕ → ℕ → ℕ → Type 0
HaveOneKey schemas recorded t first second = (first < second) × ((key : List Value) × HasKeyAt schemas recorded t first key × HasKeyAt schemas recorded t second key)

-- Those that are named: of the first type in which two have one key, the least second, and then the least first.
pub record IsFirstTwice (schemas : List Schema) (recorded : List Entry) (type_index first second : ℕ) : Type 0 where
  pub twice : HaveOneKey schemas recorded type_index first second
  pub types : (before one other : ℕ) → before < type_index → ¬ HaveOneKey schemas recorded before one other
  pub seconds : (one other : ℕ) → HaveOneKey schemas recorded type_index one other → second ≤ other
  pub firsts : (one : ℕ) → HaveOneKey schemas recorded type_index one second → first ≤ one

-- These are the records that are put: all types have a primary key, and each record gives a tree.
abbrev pub ArePut : List Schema → AskedChange → List (ℕ × PlainTree) → Type 0
ArePut schemas asked puts = AreAllKeyed schemas asked × AreRead schemas (entries schemas asked.put) puts

-- ---- refusals

-- Why a change is none of a state of this model, each where those before do not hold: a name is that of no type, first among those of the records that are put;
-- the first type without a primary key is of another kind, or has none; a record gives no tree, or has no key; two have one; or the keys of what is removed are none.
abbrev pub IsNoChange : List Schema → AskedChange → Refusal → Type 0
IsNoChange schemas asked (NoType name) = IsFirstUnknown schemas asked.put name ⊎ (AreTypes schemas asked.put × IsFirstUnknown schemas asked.remove name)
IsNoChange schemas asked (WrongKind name) =
    AreAllTypes schemas asked × ((type_index : ℕ) × IsFirstUnkeyed schemas asked type_index × IsOfName schemas type_index name × ¬ HasShape IsObject schemas type_index)
IsNoChange schemas asked (BadPath path) = AreAllTypes schemas asked × (path ≡ []) × ((type_index : ℕ) × IsFirstUnkeyed schemas asked type_index × HasShape IsObject schemas type_index)
IsNoChange schemas asked (BadRecord fault) =
    AreAllKeyed schemas asked × ((type_index : ℕ) × IsOfName schemas type_index fault.type_name × IsFirstUnread schemas (entries schemas asked.put) type_index fault.index fault.reason)
IsNoChange schemas asked (NoKey name place) =
    (puts : List (ℕ × PlainTree)) × ArePut schemas asked puts × ((type_index : ℕ) × IsOfName schemas type_index name × IsFirstKeyless schemas (entries schemas asked.put) type_index place)
IsNoChange schemas asked (KeyTwice keys) =
    (puts : List (ℕ × PlainTree)) × ArePut schemas asked puts × HaveKeys schemas puts
    × ((type_index : ℕ) × IsOfName schemas type_index keys.type_name × IsFirstTwice schemas (entries schemas asked.put) type_index keys.first keys.second)
IsNoChange schemas asked BadKey =
    (puts : List (ℕ × PlainTree)) × ArePut schemas asked puts × HaveKeys schemas puts × HaveOwnKeys schemas puts
    × ((removes : Keys) → ¬ SpellsKeys schemas asked.remove removes)
IsNoChange schemas asked _ = ⊥

-- Why the order is refused, where there is a producer: the state may follow, and it is no change of the last one; or what there is to the cycle of the edited
-- list: the state may not follow, or a limit is passed.
abbrev pub RefusesChange : Store → Published → AskedChange → Refusal → Type 0
RefusesChange store last asked (NoType name) = MayFollow store last.version asked.version asked.tag × IsNoChange last.model asked (NoType name)
RefusesChange store last asked (WrongKind name) = MayFollow store last.version asked.version asked.tag × IsNoChange last.model asked (WrongKind name)
RefusesChange store last asked (BadPath path) = MayFollow store last.version asked.version asked.tag × IsNoChange last.model asked (BadPath path)
RefusesChange store last asked (BadRecord fault) = MayFollow store last.version asked.version asked.tag × IsNoChange last.model asked (BadRecord fault)
RefusesChange store last asked (NoKey name place) = MayFollow store last.version asked.version asked.tag × IsNoChange last.model asked (NoKey name place)
RefusesChange store last asked (KeyTwice keys) = MayFollow store last.version asked.version asked.tag × IsNoChange last.model asked (KeyTwice keys)
RefusesChange store last asked BadKey = MayFollow store last.version asked.version asked.tag × IsNoChange last.model asked BadKey
RefusesChange store last asked refusal = RefusesAfter store last (cycle_of_change asked) refusal

-- Why the order is refused: there is no producer, or what there is to it.
abbrev pub ChangeRefusal : Machine → AskedChange → Refusal → Type 0
ChangeRefusal machine asked NoModel = machine.producer ≡ None
ChangeRefusal machine asked refusal = IsSomeAnd machine.producer (λ last. RefusesChange machine.store last asked refusal)

-- ---- the order

-- So many of the keys of what is removed are those of no row of the last state.
abbrev pub Misses : Published → Data → ℕ → Type 0
Misses last remove missing = (removes : Keys) × SpellsKeys last.model remove removes × CountsMissing last.model last.rows removes missing

-- What the order answers, and the machine behind it: what the cycle of the edited list answers and leaves, and how many keys are those of no row.
abbrev pub ChangeStep : Machine → AskedChange → Reply → Machine → Type 0
ChangeStep machine asked (Change change) next =
    (change.version ≡ asked.version)
    × IsSomeAnd machine.producer (λ last. Misses last asked.remove change.missing × SucceedsAfter machine last (cycle_of_change asked) change.changed change.published next)
ChangeStep machine asked (Refused refusal) next = ChangeRefusal machine asked refusal × (next ≡ machine)
ChangeStep machine asked _ next = ⊥

abbrev pub change_form : OrderForm AskedChange
change_form = moving (λ machine asked reply next. ChangeStep machine asked reply next)
