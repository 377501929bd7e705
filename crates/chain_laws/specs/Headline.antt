-- The headline: what a script over a store that holds a chain comes to, line by line.
use Rattle.std.specs.Prelude.{◌≡◌, ◌≢◌, ℕ, ℤ, List, [], ◌∷◌, ◌++◌, Some, true}
use Rattle.hol_io.specs.Name.{step_name}
use Rattle.serde_json.specs.View.{view}
use Rattle.serde_json.specs.declared.value.Value.{Value}
use Rattle.schema_model.specs.declared.schema.name.Name.{Name}
use Rattle.hol_orders.specs.declared.kind.Kind.{Kind}
use Rattle.hol_orders.specs.declared.order.Order.{Order}
use Rattle.hol_orders.specs.declared.order.Order.TheVariants as order
use Rattle.hol_answers.specs.declared.refusal.Refusal.TheVariants.{OtherModel}
use Rattle.hol_answers.specs.Refusal.{other_origin}
use Rattle.hol_answers.specs.declared.reply.Progress.{Progress}
use Rattle.hol_answers.specs.declared.reply.Reply.{Reply}
use Rattle.hol_answers.specs.declared.reply.Reply.TheVariants as reply
use Rattle.hol_orders.specs.Order.{Orders, kind_of}
use Rattle.hol_answers.specs.Reply.{line_of}
use Rattle.read_engine.specs.Position.{Position}
use Rattle.hollow_machine.specs.Forms.{answers_of_state}
use Rattle.hollow_machine.specs.Script.{LineStep}
use Rattle.hollow_machine.specs.State.{Machine, stepped_to}
use Rattle.hollow_machine.specs.Step.{Step, form}
use Rattle.written_laws.specs.Chain.{Chain}
use Rattle.chain_laws.specs.Consumers.{Agrees, Arrives, Fresh, IsIn, IsReaderOf, IsUnlikeAt, ModelsOfChainAgree, StartsAt}
use Rattle.chain_laws.specs.Growth.{GrowsBy}
use Rattle.chain_laws.specs.OldStates.{IsGotThen, IsRowThen, Reaches}
use Rattle.chain_laws.specs.Producers.{IsProducerOf, KeepsChain}

-- A step along a blob of the store: where this starts where the consumer stands, and agrees with its model, it is taken, and leads to a state of the chain.
-- Where it does not agree, it is refused for the first type that does not, and nothing changes; and where it starts at another tag, it is refused as such, and
-- nothing changes.
pub record IsTrueStep (chain : Chain) (machine : Machine) (from to : ℕ) (answer : Reply) (next : Machine) : Type 0 where
  pub taken : (now : Position) → machine.consumer ≡ Some now → StartsAt machine.store (step_name from to) now.tag → Agrees machine.store (step_name from to) now.schemas
      → (position : Position) × IsIn chain position × (answer ≡ reply.Step position.tag) × (next ≡ stepped_to machine to position)
  pub unlike : (now : Position) → machine.consumer ≡ Some now → StartsAt machine.store (step_name from to) now.tag → ¬ Agrees machine.store (step_name from to) now.schemas
      → (type_name : Name) × IsUnlikeAt machine.store (step_name from to) now.schemas type_name × (answer ≡ reply.Refused (OtherModel (step_name from to) type_name)) × (next ≡ machine)
  pub other : (now : Position) (origin : ℤ) → machine.consumer ≡ Some now → StartsAt machine.store (step_name from to) origin → origin ≢ now.tag
      → (answer ≡ reply.Refused (other_origin (step_name from to) origin now.tag)) × (next ≡ machine)

-- The answer is that of the consumer's state, loaded afresh, with the same indexes and walk indexes.
abbrev pub IsAsFresh : Chain → Machine → Order → Reply → Type 0
IsAsFresh chain machine asked answer = (fresh : Machine) → Fresh chain machine fresh → Step fresh asked answer fresh

-- So is the answer of an order that keeps a walk index, and behind it the consumer has its state afresh with the same indexes and walk indexes too.
abbrev pub IsKeptFresh : Chain → Machine → Order → Reply → Machine → Type 0
IsKeptFresh chain machine asked answer next = (fresh : Machine) → Fresh chain machine fresh → (after : Machine) × Step fresh asked answer after × Fresh chain next after

-- The orders of the kind are answered of the consumer's state alone.
abbrev pub IsOfState : Kind → Type 0
IsOfState kind = answers_of_state (form kind) ≡ true

-- What is promised of each order: of a step which are taken; of going to a version that no blob is refused, where the models of the chain agree; of what is
-- answered of an older state, that it is what is answered where that state is seen; and of what is answered of the consumer's state, that the way to the state does
-- not show; and so of a walk index that is asked for.
pub record IsTrueOrder (chain : Chain) (machine : Machine) (asked : Order) (answer : Reply) (next : Machine) : Type 0 where
  pub moves : (from to : ℕ) → asked ≡ order.Step from to → IsTrueStep chain machine from to answer next
  pub goes : (version : ℕ) (progress : Progress) → asked ≡ order.Goto version → answer ≡ reply.Goto progress → ModelsOfChainAgree chain → Arrives chain version progress next
  pub was : (now : Position) (version : ℕ) (name : Name) (ordinal : ℕ) → asked ≡ order.Was version name ordinal → machine.consumer ≡ Some now → Reaches machine version
      → IsRowThen chain now.schemas version name ordinal answer
  pub wasget : (now : Position) (version : ℕ) (name : Name) (values : Value) → asked ≡ order.WasGet version name values → machine.consumer ≡ Some now → Reaches machine version
      → IsGotThen chain now.schemas version name (view values) answer
  pub fresh : IsOfState (kind_of asked) → IsAsFresh chain machine asked answer
  pub walks : (name path : List ℕ) → asked ≡ order.WalkIndex name path → IsKeptFresh chain machine asked answer next

-- The store keeps the chain, the producer is new or at a published state of it, and the consumer without a state or sees one of it, with older ones of it.
pub record StandsOn (chain : Chain) (machine : Machine) : Type 0 where
  pub kept : KeepsChain machine.store chain
  pub producer : IsProducerOf chain machine.producer
  pub consumer : IsReaderOf chain machine

-- A line has this answer and leaves this machine, over the chain that it made of the earlier one, and what is promised of its order holds.
pub record IsTrueLine (chain : Chain) (machine : Machine) (line : List ℕ) (answer : Reply) (next : Machine) (after : Chain) : Type 0 where
  pub step : LineStep machine line answer next
  pub grows : GrowsBy machine line answer chain after
  pub stands : StandsOn after next
  pub order : (asked : Order) → Orders line asked → Step machine asked answer next → IsTrueOrder chain machine asked answer next

-- So are the lines one after another, up to the last machine and the last chain, and the text is their answers.
abbrev pub AreTrueLines : Chain → Machine → List (List ℕ) → List ℕ → Machine → Chain → Type 0
AreTrueLines chain machine [] text next after = (text ≡ []) × (next ≡ machine) × (after ≡ chain)
AreTrueLines chain machine (line ∷ lines) text next after =
    (answer : Reply) × (between : Machine) × (middle : Chain) × (rest : List ℕ)
    × IsTrueLine chain machine line answer between middle × AreTrueLines middle between lines rest next after
    × (text ≡ line_of answer ++ rest)
