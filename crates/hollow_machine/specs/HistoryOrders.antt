-- The orders `history`, `was` and `wasget`: how many older states are kept of the consumer, and what a version that is kept has.
use Rattle.std.specs.Prelude.{◌≡◌, ◌==◌, ◌<◌, ◌≤◌, ℕ, List, [], ◌∷◌, Option, Some, None, if◌then◌else◌}
use Rattle.serde_json.specs.Data.{Data}
use Rattle.serde_json.specs.View.{view}
use Rattle.schema_model.specs.declared.limit.Limit.TheVariants.{Nodes}
use Rattle.schema_model.specs.declared.model.path.Path.{Path}
use Rattle.schema_model.specs.declared.schema.name.Name.{Name}
use Rattle.schema_model.specs.Limit.{number_of_limit}
use Rattle.schema_model.specs.Parts.{index_of_type}
use Rattle.row_model.specs.declared.row.Value.{Value}
use Rattle.row_model.specs.Key.{AreMatches}
use Rattle.row_model.specs.PlainTree.{node_count}
use Rattle.row_model.specs.Table.{Table}
use Rattle.hol_history.specs.History.{table_then}
use Rattle.json_values.specs.KeyFrom.{SpellsKey}
use Rattle.record_json.specs.PrintTree.{PrintsTree}
use Rattle.read_engine.specs.Position.{Position, rows_now}
use Rattle.hol_answers.specs.declared.refusal.Refusal.{Refusal}
use Rattle.hol_answers.specs.declared.refusal.Refusal.TheVariants.{Ambiguous, BadKey, NoMatch, NoState, NotKept, TooLarge}
use Rattle.hol_answers.specs.declared.reply.Reply.{Reply}
use Rattle.hol_answers.specs.declared.reply.Reply.TheVariants as reply
use Rattle.hollow_machine.specs.Forms.{OrderForm, moving}
use Rattle.hollow_machine.specs.KeyPaths.{AreKeyPaths, HasShape, IsObject, PathsRefusal}
use Rattle.hollow_machine.specs.RowOrders.{AnswersAt, RowRefusalIn, ShowsRowIn, record_at}
use Rattle.hollow_machine.specs.State.{Machine, with_bound}

-- What `history` answers: so many older states are kept from now on, and none of those so far.
abbrev pub HistoryStep : Machine → ℕ → Reply → Machine → Type 0
HistoryStep machine bound (reply.History kept) next = (kept ≡ bound) × (next ≡ with_bound machine bound)
HistoryStep machine bound _ next = ⊥

abbrev pub history_form : OrderForm ℕ
history_form = moving (λ machine bound reply next. HistoryStep machine bound reply next)

-- The rows of a version: those now where the consumer has it, and else the newest that are kept of it, if any are.
abbrev pub rows_then : Position → Option ℕ → List (ℕ × Table) → ℕ → Option Table
rows_then now None past version = table_then past version
rows_then now (Some current) past version = if current == version then Some (rows_now now) else table_then past version

-- What is answered of the rows of a version, if they are kept.
abbrev pub AnswersThen : Position → Option Table → ℕ → Name → (Table → Position → ℕ → Reply → Type 0) → Reply → Type 0
AnswersThen now None version name Answers answer = answer ≡ reply.Refused (NotKept version)
AnswersThen now (Some table) version name Answers answer = AnswersAt now (index_of_type now.schemas name) name (Answers table) answer

-- What is answered of a type in a version: that the consumer has no state, that the version is not kept, that the model has no such type, or what is asked.
abbrev pub AnswersOld : Option Position → Option ℕ → List (ℕ × Table) → ℕ → Name → (Table → Position → ℕ → Reply → Type 0) → Reply → Type 0
AnswersOld None current past version name Answers answer = answer ≡ reply.Refused NoState
AnswersOld (Some now) current past version name Answers answer = AnswersThen now (rows_then now current past version) version name Answers answer

-- What `was` answers of a type: the record that a version had under an ordinal.
abbrev pub ShowsOld : Name → ℕ → Table → Position → ℕ → Reply → Type 0
ShowsOld name ordinal table now type_index (reply.Was value) = ShowsRowIn table ordinal now type_index (view value)
ShowsOld name ordinal table now type_index (reply.Refused refusal) = RowRefusalIn table name ordinal now type_index refusal
ShowsOld name ordinal table now type_index _ = ⊥

abbrev pub WasReply : Option Position → Option ℕ → List (ℕ × Table) → ℕ → Name → ℕ → Reply → Type 0
WasReply consumer current past version name ordinal answer = AnswersOld consumer current past version name (ShowsOld name ordinal) answer

abbrev pub was_form : OrderForm (ℕ × Name × ℕ)
was_form = moving (λ machine asked answer next. WasReply machine.consumer machine.version machine.past asked.0 asked.1 asked.2 answer × (next ≡ machine))

-- The paths are those of the primary key of a type of records.
abbrev pub HasPrimaryKey : Position → ℕ → List Path → Type 0
HasPrimaryKey now t paths = HasShape IsObject now.schemas t × AreKeyPaths now.schemas t [] paths

-- These are the live ordinals of a type of a table whose rows have the primary key that the JSON spells.
abbrev pub HaveKey : Data → Table → Position → ℕ → List ℕ → Type 0
HaveKey values table now type_index ordinals =
    (paths : List Path) × HasPrimaryKey now type_index paths × ((key : List Value) × SpellsKey now.schemas paths values key × AreMatches now.schemas table type_index paths key ordinals)

-- Why the record with a primary key is not shown: the JSON spells no key; no row has the key, or two or more have it, of which the first two are told; the
-- record has too many nodes; or there is no such key.
abbrev pub OldKeyRefusal : Name → Data → Table → Position → ℕ → Refusal → Type 0
OldKeyRefusal name values table now type_index BadKey = (paths : List Path) × HasPrimaryKey now type_index paths × ((key : List Value) → ¬ SpellsKey now.schemas paths values key)
OldKeyRefusal name values table now type_index NoMatch = HaveKey values table now type_index []
OldKeyRefusal name values table now type_index (Ambiguous first second) = (rest : List ℕ) × HaveKey values table now type_index (first ∷ second ∷ rest)
OldKeyRefusal name values table now type_index (TooLarge Nodes) =
    (ordinal : ℕ) × HaveKey values table now type_index (ordinal ∷ []) × (number_of_limit Nodes < node_count (record_at now table type_index ordinal))
OldKeyRefusal name values table now type_index refusal = PathsRefusal now.schemas type_index name [] refusal

-- What `wasget` answers of a type: the one record of a version that has the primary key, and its ordinal.
abbrev pub ShowsOldKey : Name → Data → Table → Position → ℕ → Reply → Type 0
ShowsOldKey name values table now type_index (reply.WasGet ordinal value) =
    HaveKey values table now type_index (ordinal ∷ []) × (node_count (record_at now table type_index ordinal) ≤ number_of_limit Nodes)
    × PrintsTree now.schemas type_index (record_at now table type_index ordinal) (view value)
ShowsOldKey name values table now type_index (reply.Refused refusal) = OldKeyRefusal name values table now type_index refusal
ShowsOldKey name values table now type_index _ = ⊥

abbrev pub WasGetReply : Option Position → Option ℕ → List (ℕ × Table) → ℕ → Name → Data → Reply → Type 0
WasGetReply consumer current past version name values answer = AnswersOld consumer current past version name (ShowsOldKey name values) answer

abbrev pub wasget_form : OrderForm (ℕ × Name × Data)
wasget_form = moving (λ machine asked answer next. WasGetReply machine.consumer machine.version machine.past asked.0 asked.1 asked.2 answer × (next ≡ machine))
