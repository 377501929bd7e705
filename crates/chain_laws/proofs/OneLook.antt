-- What is asked of a consumer has one answer line.
use Rattle.std.proofs.Common.{◌≡◌, ◌<◌, ℕ, List, inl, inr, ◌⊎◌, Option, Some, None, refl, sym, ap, ◌∙◌, arith}
use Rattle.std.specs.Prelude.{Contains, IfSome, ◌↔◌, codes}
use Rattle.serde_json.specs.Data.{Data, string, object, no_members, member}
use Rattle.serde_json.specs.View.{view}
use Rattle.serde_json.specs.declared.value.Value.{Value}
use Rattle.schema_model.specs.declared.limit.Limit.TheVariants.{Nodes}
use Rattle.schema_model.specs.declared.schema.name.Name.{Name}
use Rattle.schema_model.specs.Limit.{number_of_limit}
use Rattle.schema_model.specs.Parts.{index_of_type}
use Rattle.row_model.specs.PlainTree.{node_count}
use Rattle.row_model.specs.Row.{Rises}
use Rattle.row_model.specs.Table.{IsLive, Table}
use Rattle.write_engine.proofs.RisingLists.{one_set}
use Rattle.hol_answers.specs.declared.refusal.Refusal.{Refusal}
use Rattle.hol_answers.specs.declared.refusal.Refusal.TheVariants.{NoRow, TooLarge}
use Rattle.hol_answers.specs.declared.reply.Reply.{Reply}
use Rattle.hol_answers.specs.declared.reply.Reply.TheVariants as reply
use Rattle.hol_answers.specs.Reply.{is_refusal, reply_data}
use Rattle.read_engine.specs.Position.{Position, rows_now}
use Rattle.hollow_machine.specs.RowOrders.{AnswersAt, AnswersOf, ListsLive, LiveReply, RowRefusalIn, RowReply, ShowsRow, ShowsRowIn, record_at}
use Rattle.chain_laws.specs.Answers.{SaysOne}
use Rattle.chain_laws.proofs.PrintedOnce.{tree_once}
use Rattle.chain_laws.proofs.TypedConsumers.{IsTyped}

pub says : (one other : Reply) → one ≡ other → SaysOne one other
says one other same = (ap reply_data same, ap is_refusal same)

-- rising lists with the same members are one
pub rising_one : (xs ys : List ℕ) → Rises xs → Rises ys → ((q : ℕ) → Contains xs q ↔ Contains ys q) → xs ≡ ys
rising_one xs ys rises also same = one_set ys xs ys (record { rising = rises; same = same }) (record { rising = also; same = λ q. ((λ among. among), (λ among. among)) })

-- ---- by the consumer and the name

module _ (name : Name) (Answers : Position → ℕ → Reply → Type 0) (each : (now : Position) (t : ℕ) (a b : Reply) → Answers now t a → Answers now t b → SaysOne a b) where
  one_at : (now : Position) (found : Option ℕ) (a b : Reply) → AnswersAt now found name Answers a → AnswersAt now found name Answers b → SaysOne a b
  one_at now None a b a_is b_is = says a b (a_is ∙ sym b_is)
  one_at now (Some t) a b a_is b_is = each now t a b a_is b_is

  pub one_of : (consumer : Option Position) (a b : Reply) → AnswersOf consumer name Answers a → AnswersOf consumer name Answers b → SaysOne a b
  one_of None a b a_is b_is = says a b (a_is ∙ sym b_is)
  one_of (Some now) a b a_is b_is = one_at now (index_of_type now.schemas name) a b a_is b_is

-- the same where this is known of each type of a consumer whose rows are of its model
pub one_typed : (name : Name) (Answers : Position → ℕ → Reply → Type 0) → ((now : Position) → IsTyped now → (t : ℕ) (a b : Reply) → Answers now t a → Answers now t b → SaysOne a b)
    → (consumer : Option Position) (a b : Reply) → IfSome consumer IsTyped → AnswersOf consumer name Answers a → AnswersOf consumer name Answers b → SaysOne a b
one_typed name Answers each None a b typed one other = says a b (one ∙ sym other)
one_typed name Answers each (Some now) a b typed one other = by_type (index_of_type now.schemas name) one other
  where
    by_type : (found : Option ℕ) → AnswersAt now found name Answers a → AnswersAt now found name Answers b → SaysOne a b
    by_type None p q = says a b (p ∙ sym q)
    by_type (Some t) p q = each now typed t a b p q

-- ---- live

one_list : (now : Position) (t : ℕ) (a b : Reply) → ListsLive now t a → ListsLive now t b → SaysOne a b
one_list now t (reply.Live xs) (reply.Live ys) one other =
    says (reply.Live xs) (reply.Live ys) (ap (λ os. reply.Live os) (rising_one xs ys one.rising other.rising
    (λ q. ((λ among. (other.are q).1 ((one.are q).0 among)), (λ among. (one.are q).1 ((other.are q).0 among))))))
one_list now t (reply.Live xs) _ one other = absurd other
one_list now t _ b one other = absurd one

pub one_live : (consumer : Option Position) (name : Name) (a b : Reply) → LiveReply consumer name a → LiveReply consumer name b → SaysOne a b
one_live consumer name a b one other = one_of name ListsLive one_list consumer a b one other

-- ---- row

abbrev row_object : Data → Data
row_object row = object (member (codes "ok") (string (codes "row")) (member (codes "row") row no_members))

-- a record of a table
module _ (table : Table) (name : Name) (ordinal : ℕ) (now : Position) (t : ℕ) where
  abbrev Live : Type 0
  Live = IsLive table t ordinal

  abbrev nodes : ℕ
  nodes = node_count (record_at now table t ordinal)

  abbrev Kind : Refusal → Type 0
  Kind refusal = ((Live → ⊥) × (refusal ≡ NoRow (record { type_name = name; ordinal = ordinal }))) ⊎ (Live × (number_of_limit Nodes < nodes) × (refusal ≡ TooLarge Nodes))

  row_kind : (refusal : Refusal) → RowRefusalIn table name ordinal now t refusal → Kind refusal
  row_kind (NoRow row) is = inl (is.2, (λ i. NoRow (record { type_name = is.0 i; ordinal = is.1 i })))
  row_kind (TooLarge Nodes) is = inr (is.0, is.1, refl)
  row_kind _ is = absurd is

  both : (r s : Refusal) → Kind r → Kind s → r ≡ s
  both r s (inl none) (inl also) = none.1 ∙ sym also.1
  both r s (inl none) (inr large) = absurd (none.0 large.0)
  both r s (inr large) (inl none) = absurd (none.0 large.0)
  both r s (inr large) (inr also) = large.2 ∙ sym also.2

  pub refused_once : (r s : Refusal) → RowRefusalIn table name ordinal now t r → RowRefusalIn table name ordinal now t s → r ≡ s
  refused_once r s one other = both r s (row_kind r one) (row_kind s other)

  pub shown_not : (value : Value) (refusal : Refusal) → ShowsRowIn table ordinal now t (view value) → RowRefusalIn table name ordinal now t refusal → ⊥
  shown_not value refusal shows refuses = elim (row_kind refusal refuses) [ inl none ↦ none.0 shows.0 | inr large ↦ (let few = shows.1 in let many = large.1 in omega arith) ]

pub shown_once : (table : Table) (ordinal : ℕ) (now : Position) (t : ℕ) (v w : Value) → ShowsRowIn table ordinal now t (view v) → ShowsRowIn table ordinal now t (view w) → view v ≡ view w
shown_once table ordinal now t v w one other = tree_once now.schemas t (record_at now table t ordinal) (view v) (view w) one.2 other.2

module _ (name : Name) (ordinal : ℕ) (now : Position) (t : ℕ) where
  one_show : (a b : Reply) → ShowsRow name ordinal now t a → ShowsRow name ordinal now t b → SaysOne a b
  one_show (reply.Row v) (reply.Row w) one other = (ap row_object (shown_once (rows_now now) ordinal now t v w one other), refl)
  one_show (reply.Row v) (reply.Refused refusal) one other = absurd (shown_not (rows_now now) name ordinal now t v refusal one other)
  one_show (reply.Refused refusal) (reply.Row w) one other = absurd (shown_not (rows_now now) name ordinal now t w refusal other one)
  one_show (reply.Refused r) (reply.Refused s) one other = says (reply.Refused r) (reply.Refused s) (ap (λ x. reply.Refused x) (refused_once (rows_now now) name ordinal now t r s one other))
  one_show (reply.Row v) _ one other = absurd other
  one_show (reply.Refused r) _ one other = absurd other
  one_show _ b one other = absurd one

pub one_row : (consumer : Option Position) (name : Name) (ordinal : ℕ) (a b : Reply) → RowReply consumer name ordinal a → RowReply consumer name ordinal b → SaysOne a b
one_row consumer name ordinal a b one other = one_of name (ShowsRow name ordinal) (one_show name ordinal) consumer a b one other
