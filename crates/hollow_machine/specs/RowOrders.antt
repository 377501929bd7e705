-- The orders `live`, `row` and `past`: what each answers of where the consumer stands. They change nothing.
use Rattle.std.specs.Prelude.{◌≡◌, ◌≤◌, ◌<◌, ◌↔◌, ℕ, List, Option, Some, None, Contains, sum_by, true, false}
use Rattle.std.specs.List.{AllZip}
use Rattle.serde_json.specs.Data.{Data}
use Rattle.serde_json.specs.View.{view}
use Rattle.serde_json.specs.declared.value.Value.{Value}
use Rattle.schema_model.specs.declared.limit.Limit.TheVariants.{Nodes}
use Rattle.schema_model.specs.declared.schema.name.Name.{Name}
use Rattle.schema_model.specs.Limit.{number_of_limit}
use Rattle.schema_model.specs.Parts.{index_of_type}
use Rattle.row_model.specs.PlainTree.{PlainTree, node_count}
use Rattle.row_model.specs.Row.{Rises}
use Rattle.row_model.specs.Table.{Table, IsLive}
use Rattle.row_model.specs.Unfold.{unfold_row}
use Rattle.record_json.specs.PrintTree.{PrintsTree}
use Rattle.read_engine.specs.Position.{Position, rows_now}
use Rattle.read_engine.specs.Gone.{AreGone}
use Rattle.hol_answers.specs.declared.refusal.Refusal.{Refusal}
use Rattle.hol_answers.specs.declared.refusal.Refusal.TheVariants.{NoRow, NoState, NoType, TooLarge}
use Rattle.hol_answers.specs.declared.reply.Reply.{Reply}
use Rattle.hol_answers.specs.declared.reply.Reply.TheVariants as reply
use Rattle.hollow_machine.specs.State.{Machine}
use Rattle.hollow_machine.specs.Forms.{OrderForm, looking}

-- What is answered of the type at an index, where there is one of the name.
abbrev pub AnswersAt : Position → Option ℕ → Name → (Position → ℕ → Reply → Type 0) → Reply → Type 0
AnswersAt now None name Answers answer = answer ≡ reply.Refused (NoType name)
AnswersAt now (Some type_index) name Answers answer = Answers now type_index answer

-- What is answered of a type of this name: that the consumer has no state, that its model has no such type, or what is asked.
abbrev pub AnswersOf : Option Position → Name → (Position → ℕ → Reply → Type 0) → Reply → Type 0
AnswersOf None name Answers answer = answer ≡ reply.Refused NoState
AnswersOf (Some now) name Answers answer = AnswersAt now (index_of_type now.schemas name) name Answers answer

-- These are the live ordinals of a type, rising.
pub record AreLive (table : Table) (type_index : ℕ) (ordinals : List ℕ) : Type 0 where
  pub rising : Rises ordinals
  pub are : (ordinal : ℕ) → Contains ordinals ordinal ↔ IsLive table type_index ordinal

-- What `live` answers of a type.
abbrev pub ListsLive : Position → ℕ → Reply → Type 0
ListsLive now type_index (reply.Live ordinals) = AreLive (rows_now now) type_index ordinals
ListsLive now type_index _ = ⊥

abbrev pub LiveReply : Option Position → Name → Reply → Type 0
LiveReply consumer name answer = AnswersOf consumer name ListsLive answer

-- the record of a row, in a table of the consumer's model
abbrev pub record_at : Position → Table → ℕ → ℕ → PlainTree
record_at now table t ordinal = unfold_row now.schemas table t ordinal

-- The JSON is the record that a row of a table has, which is live and has not too many nodes.
abbrev pub ShowsRowIn : Table → ℕ → Position → ℕ → Data → Type 0
ShowsRowIn table ordinal now type_index json =
    IsLive table type_index ordinal × (node_count (record_at now table type_index ordinal) ≤ number_of_limit Nodes)
    × PrintsTree now.schemas type_index (record_at now table type_index ordinal) json

-- Why a row of a table is not shown: its ordinal is not live, or its record has too many nodes.
abbrev pub RowRefusalIn : Table → Name → ℕ → Position → ℕ → Refusal → Type 0
RowRefusalIn table name ordinal now type_index (NoRow row) = (row.type_name ≡ name) × (row.ordinal ≡ ordinal) × ¬ IsLive table type_index ordinal
RowRefusalIn table name ordinal now type_index (TooLarge Nodes) = IsLive table type_index ordinal × (number_of_limit Nodes < node_count (record_at now table type_index ordinal))
RowRefusalIn table name ordinal now type_index _ = ⊥

-- Why a row of the consumer's state is not shown.
abbrev pub RowRefusal : Name → ℕ → Position → ℕ → Refusal → Type 0
RowRefusal name ordinal now t refusal = RowRefusalIn (rows_now now) name ordinal now t refusal

-- What `row` answers of a type: the record under an ordinal.
abbrev pub ShowsRow : Name → ℕ → Position → ℕ → Reply → Type 0
ShowsRow name ordinal now type_index (reply.Row value) = ShowsRowIn (rows_now now) ordinal now type_index (view value)
ShowsRow name ordinal now type_index (reply.Refused refusal) = RowRefusal name ordinal now type_index refusal
ShowsRow name ordinal now type_index _ = ⊥

abbrev pub RowReply : Option Position → Name → ℕ → Reply → Type 0
RowReply consumer name ordinal answer = AnswersOf consumer name (ShowsRow name ordinal) answer

-- the nodes of the records that left a type, under these ordinals
abbrev pub nodes_gone : Position → ℕ → List ℕ → ℕ
nodes_gone now t ordinals = sum_by (λ ordinal. node_count (record_at now now.before t ordinal)) ordinals

-- An entry shows the record that left under an ordinal.
abbrev pub ShowsGone : Position → ℕ → ℕ → ℕ × Value → Type 0
ShowsGone now t ordinal entry = (entry.0 ≡ ordinal) × PrintsTree now.schemas t (record_at now now.before t ordinal) (view entry.1)

-- What `past` answers of a type: the records that left in the last step, by rising ordinal, or that these have too many nodes together.
abbrev pub ShowsPast : Position → ℕ → Reply → Type 0
ShowsPast now type_index (reply.Past entries) =
    (ordinals : List ℕ) × AreGone now type_index ordinals × (nodes_gone now type_index ordinals ≤ number_of_limit Nodes) × AllZip (ShowsGone now type_index) ordinals entries
ShowsPast now type_index (reply.Refused (TooLarge Nodes)) = (ordinals : List ℕ) × AreGone now type_index ordinals × (number_of_limit Nodes < nodes_gone now type_index ordinals)
ShowsPast now type_index _ = ⊥

abbrev pub PastReply : Option Position → Name → Reply → Type 0
PastReply consumer name answer = AnswersOf consumer name ShowsPast answer

-- The answer is one of where the consumer stands, and the machine is as it was.
abbrev pub Looks : (Option Position → Reply → Type 0) → Machine → Reply → Machine → Type 0
Looks Answers machine answer next = Answers machine.consumer answer × (next ≡ machine)

abbrev pub live_form : OrderForm Name
live_form = looking (λ consumer name answer. LiveReply consumer name answer) true

abbrev pub row_form : OrderForm (Name × ℕ)
row_form = looking (λ consumer asked answer. RowReply consumer asked.0 asked.1 answer) true

abbrev pub past_form : OrderForm Name
past_form = looking (λ consumer name answer. PastReply consumer name answer) false
