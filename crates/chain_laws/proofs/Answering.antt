-- What the orders that look at the consumer are answered: what holds of a refusal and of each answer about a type holds of all.
use Rattle.std.proofs.Common.{◌≡◌, ℕ, List, Option, Some, None, refl, sym, subst}
use Rattle.serde_json.specs.Data.{Data}
use Rattle.schema_model.specs.declared.schema.name.Name.{Name}
use Rattle.schema_model.specs.Parts.{index_of_type}
use Rattle.hol_answers.specs.declared.refusal.Refusal.TheVariants.{NoState, NoType}
use Rattle.hol_answers.specs.Reply.{published_by}
use Rattle.hol_answers.specs.declared.reply.Reply.{Reply}
use Rattle.hol_answers.specs.declared.reply.Reply.TheVariants as reply
use Rattle.hollow_machine.specs.KeyOrders.{FindReply, GetReply, ListsFound, ShowsFound}
use Rattle.hollow_machine.specs.MemberOrders.{AtReply, HasReply, TellsElement, TellsValue}
use Rattle.hollow_machine.specs.RowOrders.{AnswersAt, AnswersOf, ListsLive, LiveReply, RowReply, ShowsRow}
use Rattle.hollow_machine.specs.State.{Machine}
use Rattle.read_engine.specs.Position.{Position}
use Rattle.written_laws.specs.Chain.{Chain}
use Rattle.chain_laws.specs.Growth.{GrowsBy, GrowsTo}

module _ (P : Reply → Type 0) (name : Name) (Answers : Position → ℕ → Reply → Type 0) (no_state : P (reply.Refused NoState)) (no_type : P (reply.Refused (NoType name)))
    (each : (now : Position) (t : ℕ) (answer : Reply) → Answers now t answer → P answer) where
  of_type : (now : Position) (found : Option ℕ) (answer : Reply) → AnswersAt now found name Answers answer → P answer
  of_type now None answer is = subst P (sym is) no_type
  of_type now (Some t) answer is = each now t answer is

  pub of_answers : (consumer : Option Position) (answer : Reply) → AnswersOf consumer name Answers answer → P answer
  of_answers None answer is = subst P (sym is) no_state
  of_answers (Some now) answer is = of_type now (index_of_type now.schemas name) answer is

-- the answer tells of no version that it was published
abbrev pub IsUnpublished : Reply → Type 0
IsUnpublished answer = published_by answer ≡ None

pub unless_published : (machine : Machine) (line : List ℕ) (chain : Chain) (answer : Reply) → IsUnpublished answer → GrowsBy machine line answer chain chain
unless_published machine line chain answer none = subst (λ (version : Option ℕ). GrowsTo machine line version chain chain) (sym none) refl

live_unpublished_at : (now : Position) (t : ℕ) (answer : Reply) → ListsLive now t answer → IsUnpublished answer
live_unpublished_at now t (reply.Live ordinals) is = refl
live_unpublished_at now t _ is = absurd is

row_unpublished_at : (name : Name) (ordinal : ℕ) (now : Position) (t : ℕ) (answer : Reply) → ShowsRow name ordinal now t answer → IsUnpublished answer
row_unpublished_at name ordinal now t (reply.Row value) is = refl
row_unpublished_at name ordinal now t (reply.Refused refusal) is = refl
row_unpublished_at name ordinal now t _ is = absurd is

find_unpublished_at : (name : Name) (texts : List (List ℕ)) (values : Data) (now : Position) (t : ℕ) (answer : Reply) → ListsFound name texts values now t answer → IsUnpublished answer
find_unpublished_at name texts values now t (reply.Find ordinals) is = refl
find_unpublished_at name texts values now t (reply.Refused refusal) is = refl
find_unpublished_at name texts values now t _ is = absurd is

get_unpublished_at : (name : Name) (values : Data) (now : Position) (t : ℕ) (answer : Reply) → ShowsFound name values now t answer → IsUnpublished answer
get_unpublished_at name values now t (reply.Get ordinal value) is = refl
get_unpublished_at name values now t (reply.Refused refusal) is = refl
get_unpublished_at name values now t _ is = absurd is

has_unpublished_at : (name : Name) (ordinal element : ℕ) (now : Position) (t : ℕ) (answer : Reply) → TellsElement name ordinal element now t answer → IsUnpublished answer
has_unpublished_at name ordinal element now t (reply.Has there) is = refl
has_unpublished_at name ordinal element now t (reply.Refused refusal) is = refl
has_unpublished_at name ordinal element now t _ is = absurd is

at_unpublished_at : (name : Name) (ordinal key : ℕ) (now : Position) (t : ℕ) (answer : Reply) → TellsValue name ordinal key now t answer → IsUnpublished answer
at_unpublished_at name ordinal key now t (reply.At value) is = refl
at_unpublished_at name ordinal key now t (reply.Refused refusal) is = refl
at_unpublished_at name ordinal key now t _ is = absurd is

pub live_unpublished : (consumer : Option Position) (name : Name) (answer : Reply) → LiveReply consumer name answer → IsUnpublished answer
live_unpublished consumer name answer is = of_answers IsUnpublished name ListsLive refl refl live_unpublished_at consumer answer is

pub row_unpublished : (consumer : Option Position) (name : Name) (ordinal : ℕ) (answer : Reply) → RowReply consumer name ordinal answer → IsUnpublished answer
row_unpublished consumer name ordinal answer is = of_answers IsUnpublished name (ShowsRow name ordinal) refl refl (row_unpublished_at name ordinal) consumer answer is

pub find_unpublished : (consumer : Option Position) (name : Name) (texts : List (List ℕ)) (values : Data) (answer : Reply) → FindReply consumer name texts values answer → IsUnpublished answer
find_unpublished consumer name texts values answer is = of_answers IsUnpublished name (ListsFound name texts values) refl refl (find_unpublished_at name texts values) consumer answer is

pub get_unpublished : (consumer : Option Position) (name : Name) (values : Data) (answer : Reply) → GetReply consumer name values answer → IsUnpublished answer
get_unpublished consumer name values answer is = of_answers IsUnpublished name (ShowsFound name values) refl refl (get_unpublished_at name values) consumer answer is

pub has_unpublished : (consumer : Option Position) (name : Name) (ordinal element : ℕ) (answer : Reply) → HasReply consumer name ordinal element answer → IsUnpublished answer
has_unpublished consumer name ordinal element answer is = of_answers IsUnpublished name (TellsElement name ordinal element) refl refl (has_unpublished_at name ordinal element) consumer answer is

pub at_unpublished : (consumer : Option Position) (name : Name) (ordinal key : ℕ) (answer : Reply) → AtReply consumer name ordinal key answer → IsUnpublished answer
at_unpublished consumer name ordinal key answer is = of_answers IsUnpublished name (TellsValue name ordinal key) refl refl (at_unpublished_at name ordinal key) consumer answer is
