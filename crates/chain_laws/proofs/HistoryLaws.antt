-- The laws of the orders `history`, `was` and `wasget`.
use Rattle.std.proofs.Common.{◌≡◌, ℕ, List, [], ◌∷◌, Option, Some, None, inl, inr, refl, sym, ap, subst, ◌∙◌}
use Rattle.std.specs.Prelude.{IfSome, codes}
use Rattle.std.proofs.lemmas.List.Elements.{All-nil}
use Rattle.serde_json.specs.Data.{Data, string, object, no_members, member}
use Rattle.serde_json.specs.declared.value.Value.{Value}
use Rattle.schema_model.specs.declared.limit.Limit.TheVariants.{Nodes}
use Rattle.schema_model.specs.declared.schema.name.Name.{Name}
use Rattle.row_model.specs.Table.{Table}
use Rattle.hol_orders.specs.declared.kind.Kind.{Kind}
use Rattle.hol_orders.specs.Parts.{whole}
use Rattle.hol_answers.specs.declared.refusal.Refusal.{Refusal}
use Rattle.hol_answers.specs.declared.refusal.Refusal.TheVariants.{Ambiguous, BadKey, BadPath, NoMatch, NoState, NoType, NotKept, TooLarge, WrongKind}
use Rattle.hol_answers.specs.declared.reply.Reply.{Reply}
use Rattle.hol_answers.specs.declared.reply.Reply.TheVariants as reply
use Rattle.read_engine.specs.Position.{Position}
use Rattle.hollow_machine.specs.HistoryOrders.{AnswersOld, AnswersThen, HaveKey, HistoryStep, OldKeyRefusal, ShowsOld, ShowsOldKey, WasGetReply, WasReply, history_form, rows_then, was_form, wasget_form}
use Rattle.hollow_machine.specs.State.{Machine}
use Rattle.written_laws.specs.Chain.{Chain}
use Rattle.chain_laws.specs.Answers.{SaysOne}
use Rattle.chain_laws.specs.Consumers.{IsOld, IsReaderAt}
use Rattle.chain_laws.proofs.Answering.{IsUnpublished, of_answers}
use Rattle.chain_laws.proofs.Lawful.{IsLawful, IsLeft, LeavesOf, left_same, moves_lawful, says_both}
use Rattle.chain_laws.proofs.OneKey.{Along, Keyed, Shows, along_once, keyed_once, shows_once}
use Rattle.chain_laws.proofs.OneLook.{one_typed, refused_once, says, shown_not, shown_once}
use Rattle.chain_laws.proofs.TypedConsumers.{IsTyped}

-- ---- history

-- a consumer at a version of the chain of which no older states are kept any longer
none_kept : (chain : Chain) (consumer : Option Position) (version : Option ℕ) (past : List (ℕ × Table)) → IsReaderAt chain consumer version past → IsReaderAt chain consumer version []
none_kept chain None version past of = of
none_kept chain (Some now) version past of = (of.0, of.1, All-nil (IsOld chain now.schemas))

history_leaves : LeavesOf history_form
history_leaves machine bound (reply.History kept) next step =
    (refl, subst (IsLeft machine) (sym step.1) record { store = refl; producer = refl; typed = λ typed. typed; moves = λ chain holds of. none_kept chain machine.consumer machine.version machine.past of })
history_leaves machine bound _ next step = absurd step

one_history : (machine : Machine) (bound : ℕ) (one other : Reply) (next after : Machine) → HistoryStep machine bound one next → HistoryStep machine bound other after → (one ≡ other) × (next ≡ after)
one_history machine bound (reply.History n) (reply.History m) next after one other = (ap (λ (k : ℕ). reply.History k) (one.0 ∙ sym other.0), one.1 ∙ sym other.1)
one_history machine bound (reply.History n) _ next after one other = absurd other
one_history machine bound _ answer next after one other = absurd one

pub history_lawful : IsLawful Kind.History history_form
history_lawful = moves_lawful Kind.History history_form refl
    (λ written machine sound bound one other next after is also. says_both one other next after (one_history machine bound one other next after is also)) history_leaves

-- ---- by the consumer, the version and the name

module _ (version : ℕ) (name : Name) (Answers : Table → Position → ℕ → Reply → Type 0)
    (each : (table : Table) (now : Position) → IsTyped now → (t : ℕ) (a b : Reply) → Answers table now t a → Answers table now t b → SaysOne a b) where
  one_then : (now : Position) → IsTyped now → (found : Option Table) (a b : Reply) → AnswersThen now found version name Answers a → AnswersThen now found version name Answers b → SaysOne a b
  one_then now typed None a b one other = says a b (one ∙ sym other)
  one_then now typed (Some table) a b one other = one_typed name (Answers table) (each table) (Some now) a b typed one other

  one_old : (consumer : Option Position) (current : Option ℕ) (past : List (ℕ × Table)) (a b : Reply) → IfSome consumer IsTyped → AnswersOld consumer current past version name Answers a
      → AnswersOld consumer current past version name Answers b → SaysOne a b
  one_old None current past a b typed one other = says a b (one ∙ sym other)
  one_old (Some now) current past a b typed one other = one_then now typed (rows_then now current past version) a b one other

module _ (P : Reply → Type 0) (version : ℕ) (name : Name) (Answers : Table → Position → ℕ → Reply → Type 0) (no_state : P (reply.Refused NoState)) (not_kept : P (reply.Refused (NotKept version)))
    (no_type : P (reply.Refused (NoType name))) (each : (table : Table) (now : Position) (t : ℕ) (answer : Reply) → Answers table now t answer → P answer) where
  of_then : (now : Position) (found : Option Table) (answer : Reply) → AnswersThen now found version name Answers answer → P answer
  of_then now None answer is = subst P (sym is) not_kept
  of_then now (Some table) answer is = of_answers P name (Answers table) no_state no_type (each table) (Some now) answer is

  of_old : (consumer : Option Position) (current : Option ℕ) (past : List (ℕ × Table)) (answer : Reply) → AnswersOld consumer current past version name Answers answer → P answer
  of_old None current past answer is = subst P (sym is) no_state
  of_old (Some now) current past answer is = of_then now (rows_then now current past version) answer is

-- ---- was

abbrev was_object : Data → Data
was_object row = object (member (codes "ok") (string (codes "was")) (member (codes "row") row no_members))

module _ (name : Name) (ordinal : ℕ) (table : Table) (now : Position) where
  was_once : IsTyped now → (t : ℕ) (a b : Reply) → ShowsOld name ordinal table now t a → ShowsOld name ordinal table now t b → SaysOne a b
  was_once typed t (reply.Was v) (reply.Was w) one other = (ap was_object (shown_once table ordinal now t v w one other), refl)
  was_once typed t (reply.Was v) (reply.Refused refusal) one other = absurd (shown_not table name ordinal now t v refusal one other)
  was_once typed t (reply.Refused refusal) (reply.Was w) one other = absurd (shown_not table name ordinal now t w refusal other one)
  was_once typed t (reply.Refused r) (reply.Refused s) one other = says (reply.Refused r) (reply.Refused s) (ap (λ (x : Refusal). reply.Refused x) (refused_once table name ordinal now t r s one other))
  was_once typed t (reply.Was v) _ one other = absurd other
  was_once typed t (reply.Refused r) _ one other = absurd other
  was_once typed t _ b one other = absurd one

  was_unpublished : (t : ℕ) (answer : Reply) → ShowsOld name ordinal table now t answer → IsUnpublished answer
  was_unpublished t (reply.Was value) is = refl
  was_unpublished t (reply.Refused refusal) is = refl
  was_unpublished t _ is = absurd is

pub one_was : (consumer : Option Position) (current : Option ℕ) (past : List (ℕ × Table)) (version : ℕ) (name : Name) (ordinal : ℕ) (a b : Reply) → IfSome consumer IsTyped
    → WasReply consumer current past version name ordinal a → WasReply consumer current past version name ordinal b → SaysOne a b
one_was consumer current past version name ordinal a b typed one other = one_old version name (ShowsOld name ordinal) (was_once name ordinal) consumer current past a b typed one other

was_leaves : LeavesOf was_form
was_leaves machine asked answer next is = (
  of_old IsUnpublished asked.0 asked.1 (ShowsOld asked.1 asked.2) refl refl refl (was_unpublished asked.1 asked.2) machine.consumer machine.version machine.past answer is.0,
  left_same machine next is.1,
)

pub was_lawful : IsLawful Kind.Was was_form
was_lawful = moves_lawful Kind.Was was_form refl
    (λ written machine sound asked one other next after is also.
    (one_was machine.consumer machine.version machine.past asked.0 asked.1 asked.2 one other sound.1 is.0 also.0, is.1 ∙ sym also.1)) was_leaves

-- ---- wasget

abbrev was_got : ℕ → Value → Reply
was_got ordinal value = reply.WasGet ordinal value

abbrev was_got_object : ℕ → Data → Data
was_got_object ordinal row = object (member (codes "ok") (string (codes "wasget")) (member (codes "ordinal") (whole ordinal) (member (codes "row") row no_members)))

module _ (name : Name) (values : Data) (table : Table) (now : Position) where
  module _ (typed : IsTyped now) (t : ℕ) where
    -- the rows are no records; there is no primary key; or what there is to the rows that have the key
    abbrev Looked : Reply → Type 0
    Looked x =
        Along SaysOne says now.schemas typed.names t [] (reply.Refused (WrongKind name)) (λ lost. reply.Refused (BadPath lost)) (Keyed values now table t (Shows now table t was_got)) x

    found : (ordinals : List ℕ) (x : Reply) → HaveKey values table now t ordinals → Shows now table t was_got ordinals x → Looked x
    found ordinals x (paths, has, (key, spells, are)) shows = inr (has.0, inr (paths, has.1, inr (key, spells, (ordinals, are, shows))))

    refused : (refusal : Refusal) → OldKeyRefusal name values table now t refusal → Looked (reply.Refused refusal)
    refused BadKey (paths, has, none) = inr (has.0, inr (paths, has.1, inl (none, refl)))
    refused NoMatch is = found [] (reply.Refused NoMatch) is refl
    refused (Ambiguous first second) (rest, is) = found (first ∷ second ∷ rest) (reply.Refused (Ambiguous first second)) is refl
    refused (TooLarge Nodes) (ordinal, is, many) = found (ordinal ∷ []) (reply.Refused (TooLarge Nodes)) is (inl (many, refl))
    refused (WrongKind other) is = inl (is.1, ap (λ (n : Name). reply.Refused (WrongKind n)) is.0)
    refused (BadPath lost) is = inr (is.0, inl (lost, is.1, refl))
    refused _ is = absurd is

    looked : (answer : Reply) → ShowsOldKey name values table now t answer → Looked answer
    looked (reply.WasGet ordinal value) (is, few, prints) = found (ordinal ∷ []) (reply.WasGet ordinal value) is (inr (few, (value, prints, refl)))
    looked (reply.Refused refusal) is = refused refusal is
    looked _ is = absurd is

    wasget_once : (a b : Reply) → ShowsOldKey name values table now t a → ShowsOldKey name values table now t b → SaysOne a b
    wasget_once a b one other =
        along_once SaysOne says now.schemas typed.names t [] (reply.Refused (WrongKind name)) (λ lost. reply.Refused (BadPath lost)) (Keyed values now table t (Shows now table t was_got))
        (keyed_once values now table t (Shows now table t was_got) (shows_once now table t was_got (λ ordinal v w row. (ap (was_got_object ordinal) row, refl)))) a b (looked a one) (looked b other)

  wasget_unpublished : (t : ℕ) (answer : Reply) → ShowsOldKey name values table now t answer → IsUnpublished answer
  wasget_unpublished t (reply.WasGet ordinal value) is = refl
  wasget_unpublished t (reply.Refused refusal) is = refl
  wasget_unpublished t _ is = absurd is

pub one_wasget : (consumer : Option Position) (current : Option ℕ) (past : List (ℕ × Table)) (version : ℕ) (name : Name) (values : Data) (a b : Reply) → IfSome consumer IsTyped
    → WasGetReply consumer current past version name values a → WasGetReply consumer current past version name values b → SaysOne a b
one_wasget consumer current past version name values a b typed one other =
    one_old version name (ShowsOldKey name values) (wasget_once name values) consumer current past a b typed one other

wasget_leaves : LeavesOf wasget_form
wasget_leaves machine asked answer next is = (
  of_old IsUnpublished asked.0 asked.1 (ShowsOldKey asked.1 asked.2) refl refl refl (wasget_unpublished asked.1 asked.2) machine.consumer machine.version machine.past answer is.0,
  left_same machine next is.1,
)

pub wasget_lawful : IsLawful Kind.WasGet wasget_form
wasget_lawful = moves_lawful Kind.WasGet wasget_form refl
    (λ written machine sound asked one other next after is also.
    (one_wasget machine.consumer machine.version machine.past asked.0 asked.1 asked.2 one other sound.1 is.0 also.0, is.1 ∙ sym also.1)) wasget_leaves
