-- The orders that show records have an answer, where the records have JSON.
use Rattle.std.proofs.Common.{◌≡◌, ℕ, List, [], ◌∷◌, Bool, true, false, Option, None, Some, IfSome, inl, inr, refl, arith, cond, eqb}
use Rattle.std.specs.Prelude.{Contains}
use Rattle.std.specs.FinMap.{keys}
use Rattle.std.specs.List.{AllZip}
use Rattle.std.proofs.lemmas.Bool.{cases_lt}
use Rattle.std.proofs.lemmas.List.Elements.{Contains-append_right}
use Rattle.serde_json.specs.Data.{Data}
use Rattle.serde_json.specs.View.{view}
use Rattle.serde_json.specs.declared.value.Value.{Value}
use Rattle.ordinal_set.specs.Ordinals.{bound_of}
use Rattle.schema_model.specs.declared.limit.Limit.TheVariants.{Nodes}
use Rattle.schema_model.specs.declared.schema.name.Name.{Name}
use Rattle.schema_model.specs.Limit.{number_of_limit}
use Rattle.schema_model.specs.Parts.{index_of_type}
use Rattle.row_model.specs.declared.row.Value.{Value as RowValue}
use Rattle.row_model.specs.BothStates.{rows_in}
use Rattle.row_model.specs.PlainTree.{node_count}
use Rattle.row_model.specs.Table.{IsLive, Table}
use Rattle.json_values.specs.KeyFrom.{SpellsKey}
use Rattle.hol_history.specs.History.{table_then}
use Rattle.read_engine.specs.Gone.{AreGone}
use Rattle.read_engine.specs.Position.{Position, rows_now}
use Rattle.hol_answers.specs.declared.refusal.Refusal.{Refusal}
use Rattle.hol_answers.specs.declared.refusal.Refusal.TheVariants as refusal
use Rattle.hol_answers.specs.declared.reply.Reply.{Reply}
use Rattle.hol_answers.specs.declared.reply.Reply.TheVariants as reply
use Rattle.hollow_machine.specs.HistoryOrders.{AnswersOld, AnswersThen, HaveKey, ShowsOld, ShowsOldKey, rows_then, was_form, wasget_form}
use Rattle.hollow_machine.specs.KeyOrders.{FindsUnder, ShowsFound, get_form}
use Rattle.hollow_machine.specs.RowOrders.{AnswersOf, ShowsGone, ShowsPast, ShowsRow, ShowsRowIn, RowRefusalIn, nodes_gone, past_form, record_at, row_form}
use Rattle.hollow_machine.specs.State.{Machine}
use Rattle.answer_laws.specs.Answered.{IsAnsweredBy}
use Rattle.answer_laws.specs.Shown.{HasJson, IsShown}
use Rattle.answer_laws.proofs.Answering.{of_type}
use Rattle.answer_laws.proofs.Deciding.{decide}
use Rattle.answer_laws.proofs.Keys.{paths_or_refused, schema_there}
use Rattle.answer_laws.proofs.LookUps.{finds_or_refused, some_matches}
use Rattle.answer_laws.proofs.Ordinals.{live_below, some_ordinals}

-- ---- one record

-- that a row is neither shown nor refused cannot be
row_or_refused : (table : Table) (name : Name) (ordinal : ℕ) (now : Position) (t : ℕ) → HasJson now.schemas table → ((json : Value) → ShowsRowIn table ordinal now t (view json) → ⊥)
    → ((told : Refusal) → RowRefusalIn table name ordinal now t told → ⊥) → ⊥
row_or_refused table name ordinal now t has shown refused = decide (IsLive table t ordinal) (λ either. elim either [
  | inl live ↦ elim (cases_lt (number_of_limit Nodes) (node_count (record_at now table t ordinal))) [
    | inl many ↦ refused (refusal.TooLarge Nodes) (live, many)
    | inr few ↦ has t ordinal live (λ json prints. shown json (live, few, prints))
  ]
  | inr dead ↦ refused (refusal.NoRow (record { type_name = name; ordinal = ordinal })) (refl, refl, dead)
])

-- of a state of the consumer
of_state : (consumer : Option Position) (Known : Position → Type 0) → IfSome consumer Known → (name : Name) (Answers : Position → ℕ → Reply → Type 0)
    → ((now : Position) → Known now → (t : ℕ) → index_of_type now.schemas name ≡ Some t → ((answer : Reply) → Answers now t answer → ⊥) → ⊥)
    → ((answer : Reply) → AnswersOf consumer name Answers answer → ⊥) → ⊥
of_state None Known known name Answers each none = none (reply.Refused refusal.NoState) refl
of_state (Some now) Known known name Answers each none = of_type now name Answers (each now known) none

pub row_answered : (machine : Machine) → IsShown machine → (asked : Name × ℕ) → IsAnsweredBy row_form machine asked
row_answered machine shown (name, ordinal) none =
    of_state machine.consumer (λ now. HasJson now.schemas (rows_now now)) shown.now name (ShowsRow name ordinal) (λ now has t is unshown.
    row_or_refused (rows_now now) name ordinal now t has (λ json shows. unshown (reply.Row json) shows) (λ why tells. unshown (reply.Refused why) tells))
    (λ answer told. none answer machine (told, refl))

-- ---- the one record of a key

pub get_answered : (machine : Machine) → IsShown machine → (asked : Name × Data) → IsAnsweredBy get_form machine asked
get_answered machine shown (name, values) none =
    of_state machine.consumer (λ now. HasJson now.schemas (rows_now now)) shown.now name (ShowsFound name values) (λ now has t is unshown.
    finds_or_refused name [] values now t is (found_shown now has t unshown) (λ tells. unshown (reply.Refused refusal.NoIndex) tells) (λ tells. unshown (reply.Refused refusal.BadKey) tells)
    (λ lost tells. unshown (reply.Refused (refusal.BadPath lost)) tells) (λ tells. unshown (reply.Refused (refusal.WrongKind name)) tells))
    (λ answer told. none answer machine (told, refl))
  where
    found_shown : (now : Position) → HasJson now.schemas (rows_now now) → (t : ℕ) → ((answer : Reply) → ShowsFound name values now t answer → ⊥) → (ordinals : List ℕ) → FindsUnder [] values now t ordinals → ⊥
    found_shown now has t unshown [] found = unshown (reply.Refused refusal.NoMatch) found
    found_shown now has t unshown (first ∷ second ∷ rest) found = unshown (reply.Refused (refusal.Ambiguous first second)) (rest, found)
    found_shown now has t unshown (ordinal ∷ []) found =
        let live : IsLive (rows_now now) t ordinal = ((found.2.2.are ordinal).0 (0, omega arith, refl)).0 in
        elim (cases_lt (number_of_limit Nodes) (node_count (record_at now (rows_now now) t ordinal))) [
          | inl many ↦ unshown (reply.Refused (refusal.TooLarge Nodes)) (ordinal, found, many)
          | inr few ↦ has t ordinal live (λ json prints. unshown (reply.Get ordinal json) (found, few, prints))
        ]

-- ---- the records that left

-- each of some rows that were live is shown
all_shown : (now : Position) (t : ℕ) → HasJson now.schemas now.before → (ordinals : List ℕ) → ((ordinal : ℕ) → Contains ordinals ordinal → IsLive now.before t ordinal)
    → ((entries : List (ℕ × Value)) → AllZip (ShowsGone now t) ordinals entries → ⊥) → ⊥
all_shown now t has [] live none = none [] tt
all_shown now t has (ordinal ∷ ordinals) live none = has t ordinal (live ordinal (0, omega arith, refl)) (λ json prints.
    all_shown now t has ordinals (λ other among. live other (Contains-append_right (ordinal ∷ []) ordinals other among)) (λ entries shows. none ((ordinal, json) ∷ entries) ((refl, prints), shows)))

pub past_answered : (machine : Machine) → IsShown machine → (name : Name) → IsAnsweredBy past_form machine name
past_answered machine shown name none =
    of_state machine.consumer (λ now. HasJson now.schemas now.before) shown.before name ShowsPast (λ now has t is unshown.
    some_ordinals (λ ordinal. IsLive now.before t ordinal × ¬ IsLive (rows_now now) t ordinal) (bound_of (keys (rows_in now.before t))) (λ ordinal left. live_below now.before t ordinal left.0) (λ ordinals rising are.
    let gone : AreGone now t ordinals = record { rising = rising; are = are } in
    elim (cases_lt (number_of_limit Nodes) (nodes_gone now t ordinals)) [
      | inl many ↦ unshown (reply.Refused (refusal.TooLarge Nodes)) (ordinals, gone, many)
      | inr few ↦ all_shown now t has ordinals (λ ordinal among. ((are ordinal).0 among).0) (λ entries shows. unshown (reply.Past entries) (ordinals, gone, few, shows))
    ]))
    (λ answer told. none answer machine (told, refl))

-- ---- older states

-- the rows of a version have JSON, if they are kept
then_shown : (now : Position) (current : Option ℕ) (past : List (ℕ × Table)) (version : ℕ) → HasJson now.schemas (rows_now now) → IfSome (table_then past version) (HasJson now.schemas)
    → IfSome (rows_then now current past version) (HasJson now.schemas)
then_shown now None past version here old = old
then_shown now (Some at) past version here old = by_version (eqb at version)
  where
    by_version : (same : Bool) → IfSome (cond same (Some (rows_now now)) (table_then past version)) (HasJson now.schemas)
    by_version true = here
    by_version false = old

-- what is answered of a type in a version
of_version : (now : Position) (found : Option Table) (version : ℕ) (name : Name) (Answers : Table → Position → ℕ → Reply → Type 0) → IfSome found (HasJson now.schemas)
    → ((table : Table) → HasJson now.schemas table → (t : ℕ) → index_of_type now.schemas name ≡ Some t → ((answer : Reply) → Answers table now t answer → ⊥) → ⊥)
    → ((answer : Reply) → AnswersThen now found version name Answers answer → ⊥) → ⊥
of_version now None version name Answers has each none = none (reply.Refused (refusal.NotKept version)) refl
of_version now (Some table) version name Answers has each none = of_type now name (Answers table) (each table has) none

of_old : (consumer : Option Position) (current : Option ℕ) (past : List (ℕ × Table)) (version : ℕ) (name : Name) (Answers : Table → Position → ℕ → Reply → Type 0)
    → IfSome consumer (λ now. HasJson now.schemas (rows_now now)) → IfSome consumer (λ now. (v : ℕ) → IfSome (table_then past v) (HasJson now.schemas))
    → ((now : Position) (table : Table) → HasJson now.schemas table → (t : ℕ) → index_of_type now.schemas name ≡ Some t → ((answer : Reply) → Answers table now t answer → ⊥) → ⊥)
    → ((answer : Reply) → AnswersOld consumer current past version name Answers answer → ⊥) → ⊥
of_old None current past version name Answers here old each none = none (reply.Refused refusal.NoState) refl
of_old (Some now) current past version name Answers here old each none =
    of_version now (rows_then now current past version) version name Answers (then_shown now current past version here (old version)) (each now) none

pub was_answered : (machine : Machine) → IsShown machine → (asked : ℕ × Name × ℕ) → IsAnsweredBy was_form machine asked
was_answered machine shown (version, name, ordinal) none =
    of_old machine.consumer machine.version machine.past version name (ShowsOld name ordinal) shown.now shown.past (λ now table has t is unshown.
    row_or_refused table name ordinal now t has (λ json shows. unshown (reply.Was json) shows) (λ why tells. unshown (reply.Refused why) tells))
    (λ answer told. none answer machine (told, refl))

pub wasget_answered : (machine : Machine) → IsShown machine → (asked : ℕ × Name × Data) → IsAnsweredBy wasget_form machine asked
wasget_answered machine shown (version, name, values) none =
    of_old machine.consumer machine.version machine.past version name (ShowsOldKey name values) shown.now shown.past (λ now table has t is unshown.
    let schema = schema_there now.schemas name t is in
    paths_or_refused now.schemas t name [] schema.0 schema.1 (λ paths records are. decide ((key : List RowValue) × SpellsKey now.schemas paths values key) (λ either. elim either [
      | inl spelled ↦ some_matches now table t paths spelled.0 (λ ordinals match. key_shown now table has t unshown ordinals (paths, (records, are), (spelled.0, spelled.1, match)))
      | inr never ↦ unshown (reply.Refused refusal.BadKey) (paths, (records, are), λ key spells. never (key, spells))
    ]))
    (λ lost tells. unshown (reply.Refused (refusal.BadPath lost)) tells) (λ tells. unshown (reply.Refused (refusal.WrongKind name)) tells))
    (λ answer told. none answer machine (told, refl))
  where
    key_shown : (now : Position) (table : Table) → HasJson now.schemas table → (t : ℕ) → ((answer : Reply) → ShowsOldKey name values table now t answer → ⊥) → (ordinals : List ℕ) → HaveKey values table now t ordinals → ⊥
    key_shown now table has t unshown [] found = unshown (reply.Refused refusal.NoMatch) found
    key_shown now table has t unshown (first ∷ second ∷ rest) found = unshown (reply.Refused (refusal.Ambiguous first second)) (rest, found)
    key_shown now table has t unshown (ordinal ∷ []) found =
        let live : IsLive table t ordinal = ((found.2.2.are ordinal).0 (0, omega arith, refl)).0 in
        elim (cases_lt (number_of_limit Nodes) (node_count (record_at now table t ordinal))) [
          | inl many ↦ unshown (reply.Refused (refusal.TooLarge Nodes)) (ordinal, found, many)
          | inr few ↦ has t ordinal live (λ json prints. unshown (reply.WasGet ordinal json) (found, few, prints))
        ]
