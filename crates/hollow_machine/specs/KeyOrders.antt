-- The orders `get` and `find`, which look rows up by a key: what they answer of where a consumer stands.
use Rattle.std.specs.Prelude.{◌<◌, ◌≤◌, ℕ, List, [], ◌∷◌, Option, Contains, true}
use Rattle.serde_json.specs.Data.{Data}
use Rattle.serde_json.specs.View.{view}
use Rattle.schema_model.specs.declared.limit.Limit.TheVariants.{Nodes}
use Rattle.schema_model.specs.declared.model.path.Path.{Path}
use Rattle.row_model.specs.declared.row.Value.{Value}
use Rattle.schema_model.specs.declared.schema.name.Name.{Name}
use Rattle.row_model.specs.Key.{AreMatches}
use Rattle.schema_model.specs.Limit.{number_of_limit}
use Rattle.row_model.specs.PlainTree.{node_count}
use Rattle.json_values.specs.KeyFrom.{SpellsKey}
use Rattle.record_json.specs.PrintTree.{PrintsTree}
use Rattle.read_engine.specs.Indexes.{index_by}
use Rattle.read_engine.specs.Position.{Position, rows_now}
use Rattle.hol_answers.specs.declared.refusal.Refusal.{Refusal}
use Rattle.hol_answers.specs.declared.refusal.Refusal.TheVariants.{Ambiguous, BadKey, NoIndex, NoMatch, TooLarge}
use Rattle.hol_answers.specs.declared.reply.Reply.{Reply}
use Rattle.hol_answers.specs.declared.reply.Reply.TheVariants as reply
use Rattle.hollow_machine.specs.KeyPaths.{AreKeyPaths, HasShape, IsObject, PathsRefusal, texts_of_array}
use Rattle.hollow_machine.specs.RowOrders.{AnswersOf, record_at}
use Rattle.hollow_machine.specs.Forms.{OrderForm, looking}

-- An index is kept of a type by the paths of these texts.
abbrev pub IsKept : List (List ℕ) → Position → ℕ → List Path → Type 0
IsKept texts now t paths = HasShape IsObject now.schemas t × AreKeyPaths now.schemas t texts paths × Contains now.indexes (index_by t paths)

-- These are the live ordinals of a type whose rows have the key that the JSON spells, along the paths of these texts, of which an index is kept.
abbrev pub FindsUnder : List (List ℕ) → Data → Position → ℕ → List ℕ → Type 0
FindsUnder texts values now type_index ordinals =
    (paths : List Path) × IsKept texts now type_index paths
    × ((key : List Value) × SpellsKey now.schemas paths values key × AreMatches now.schemas (rows_now now) type_index paths key ordinals)

-- Why no rows are looked up: there is no such key; no index is kept; or the JSON spells no key.
abbrev pub LookUpRefusal : Name → List (List ℕ) → Data → Position → ℕ → Refusal → Type 0
LookUpRefusal name texts values now type_index NoIndex =
    HasShape IsObject now.schemas type_index × ((paths : List Path) × AreKeyPaths now.schemas type_index texts paths × ¬ Contains now.indexes (index_by type_index paths))
LookUpRefusal name texts values now type_index BadKey =
    (paths : List Path) × IsKept texts now type_index paths × ((key : List Value) → ¬ SpellsKey now.schemas paths values key)
LookUpRefusal name texts values now type_index refusal = PathsRefusal now.schemas type_index name texts refusal

-- What `find` answers of a type: the ordinals of the rows that have the key.
abbrev pub ListsFound : Name → List (List ℕ) → Data → Position → ℕ → Reply → Type 0
ListsFound name texts values now type_index (reply.Find ordinals) = FindsUnder texts values now type_index ordinals
ListsFound name texts values now type_index (reply.Refused refusal) = LookUpRefusal name texts values now type_index refusal
ListsFound name texts values now type_index _ = ⊥

abbrev pub FindReply : Option Position → Name → List (List ℕ) → Data → Reply → Type 0
FindReply consumer name texts values answer = AnswersOf consumer name (ListsFound name texts values) answer

-- Why the record with a key is not shown: no row has the key, or two or more have it, of which the first two are told; or it has too many nodes.
abbrev pub GetRefusal : Name → Data → Position → ℕ → Refusal → Type 0
GetRefusal name values now type_index NoMatch = FindsUnder [] values now type_index []
GetRefusal name values now type_index (Ambiguous first second) = (rest : List ℕ) × FindsUnder [] values now type_index (first ∷ second ∷ rest)
GetRefusal name values now type_index (TooLarge Nodes) =
    (ordinal : ℕ) × FindsUnder [] values now type_index (ordinal ∷ []) × (number_of_limit Nodes < node_count (record_at now (rows_now now) type_index ordinal))
GetRefusal name values now type_index refusal = LookUpRefusal name [] values now type_index refusal

-- What `get` answers of a type: the one record that has the primary key, and its ordinal.
abbrev pub ShowsFound : Name → Data → Position → ℕ → Reply → Type 0
ShowsFound name values now type_index (reply.Get ordinal value) =
    FindsUnder [] values now type_index (ordinal ∷ []) × (node_count (record_at now (rows_now now) type_index ordinal) ≤ number_of_limit Nodes)
    × PrintsTree now.schemas type_index (record_at now (rows_now now) type_index ordinal) (view value)
ShowsFound name values now type_index (reply.Refused refusal) = GetRefusal name values now type_index refusal
ShowsFound name values now type_index _ = ⊥

abbrev pub GetReply : Option Position → Name → Data → Reply → Type 0
GetReply consumer name values answer = AnswersOf consumer name (ShowsFound name values) answer

abbrev pub get_form : OrderForm (Name × Data)
get_form = looking (λ consumer asked answer. GetReply consumer asked.0 asked.1 answer) true

abbrev pub find_form : OrderForm (Name × Data × Data)
find_form = looking (λ consumer asked answer. FindReply consumer asked.0 (texts_of_array asked.1) asked.2 answer) true
