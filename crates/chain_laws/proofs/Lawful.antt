-- What every law of lines asks of the orders of a kind.
use Rattle.std.proofs.Common.{◌≡◌, ℕ, List, Bool, true, Option, Some, None, refl, sym, ap, subst, ◌∙◌, false}
use Rattle.std.specs.Prelude.{IfSome}
use Rattle.hol_io.specs.Store.{Store}
use Rattle.row_model.specs.Table.{Table}
use Rattle.state_blobs.specs.Published.{Published}
use Rattle.hol_orders.specs.declared.kind.Kind.{Kind}
use Rattle.hol_orders.specs.declared.order.Order.{Order}
use Rattle.hol_orders.specs.Kind.{shape}
use Rattle.hol_orders.specs.Order.{Orders, asking, asks}
use Rattle.hol_answers.specs.declared.refusal.Refusal.{Refusal}
use Rattle.hol_answers.specs.declared.reply.Reply.{Reply}
use Rattle.hol_answers.specs.declared.reply.Reply.TheVariants as reply
use Rattle.read_engine.specs.Position.{Position}
use Rattle.hollow_machine.specs.Forms.{OrderForm, Refuses, StepBy, answers_of_state, looking}
use Rattle.hollow_machine.specs.State.{Machine}
use Rattle.written_laws.specs.Chain.{Chain, ChainState, HasVersion, IsChain}
use Rattle.written_laws.specs.HoldsChain.{HoldsChain}
use Rattle.chain_laws.specs.Answers.{SaysOne}
use Rattle.chain_laws.specs.Consumers.{Fresh, IsConsumerOf, IsReaderAt, IsReaderOf}
use Rattle.chain_laws.specs.Growth.{GrowsBy}
use Rattle.chain_laws.specs.Producers.{IsProducerOf, KeepsChain}
use Rattle.chain_laws.proofs.Answering.{IsUnpublished, unless_published}
use Rattle.chain_laws.proofs.OneCycle.{IsOnce, WrittenOnce}
use Rattle.chain_laws.proofs.OneLook.{says}
use Rattle.chain_laws.proofs.TypedConsumers.{IsTyped}

-- The producer, if there is one, has a model and no row twice; the rows of the consumer, if it has a state, are of a model.
abbrev pub IsSoundMachine : Machine → Type 0
IsSoundMachine machine = IfSome machine.producer IsOnce × IfSome machine.consumer IsTyped

-- each state of the one chain is one of the other
abbrev pub Extends : Chain → Chain → Type 0
Extends chain after = (v : ℕ) (s : ChainState) → HasVersion chain v s → HasVersion after v s

-- the line leaves this machine, and the chain grew by what it published
abbrev pub Keeps : Machine → List ℕ → Reply → Chain → Machine → Type 0
Keeps machine line answer chain next =
    (after : Chain) × GrowsBy machine line answer chain after × KeepsChain next.store after × IsProducerOf after next.producer × Extends chain after

-- the orders of a kind are answered in one way
abbrev pub IsOneOf : {Asked : Type 0} → OrderForm Asked → Type 0
IsOneOf {Asked} form = WrittenOnce → (machine : Machine) → IsSoundMachine machine → (asked : Asked) (one other : Reply) (next after : Machine)
    → StepBy form machine asked one next → StepBy form machine asked other after → SaysOne one other × (next ≡ after)

-- they leave a sound machine sound
abbrev pub IsSoundOf : {Asked : Type 0} → OrderForm Asked → Type 0
IsSoundOf {Asked} form = (machine : Machine) → IsSoundMachine machine → (asked : Asked) (answer : Reply) (next : Machine) → StepBy form machine asked answer next → IsSoundMachine next

-- they keep the chain of a store, and a producer over it
abbrev pub KeepsOf : (kind : Kind) → OrderForm (shape kind).Asked → Type 0
KeepsOf kind form = (machine : Machine) (chain : Chain) → KeepsChain machine.store chain → IsProducerOf chain machine.producer
    → (line : List ℕ) (order : Order) → Orders line order → (asked : (shape kind).Asked) → asking order ≡ asks kind asked
    → (answer : Reply) (next : Machine) → StepBy form machine asked answer next → Keeps machine line answer chain next

-- they leave the consumer at a state of the chain
abbrev pub MovesOf : {Asked : Type 0} → OrderForm Asked → Type 0
MovesOf {Asked} form = (machine : Machine) (chain : Chain) → HoldsChain machine.store chain → IsReaderOf chain machine
    → (asked : Asked) (answer : Reply) (next : Machine) → StepBy form machine asked answer next → IsReaderOf chain next

-- they are answered as where the consumer has its state afresh
abbrev pub IsFreshOf : {Asked : Type 0} → OrderForm Asked → Type 0
IsFreshOf {Asked} form = (machine fresh : Machine) (chain : Chain) → IsChain chain → IsConsumerOf chain machine.consumer → Fresh chain machine fresh
    → (asked : Asked) (answer : Reply) (next : Machine) → StepBy form machine asked answer next → StepBy form fresh asked answer fresh

pub record IsLawful (kind : Kind) (form : OrderForm (shape kind).Asked) : Type 0 where
  pub once : IsOneOf form
  pub sound : IsSoundOf form
  pub keeps : KeepsOf kind form
  pub moves : MovesOf form
  pub afresh : answers_of_state form ≡ true → IsFreshOf form

-- ---- what stays

module _ (machine : Machine) (line : List ℕ) (chain : Chain) (kept : KeepsChain machine.store chain) (over : IsProducerOf chain machine.producer) where
  -- the store and the producer stay
  pub beside_keeps : (answer : Reply) (next : Machine) → GrowsBy machine line answer chain chain → next.store ≡ machine.store → next.producer ≡ machine.producer → Keeps machine line answer chain next
  beside_keeps answer next grows store producer =
      (chain, grows, subst (λ (s : Store). KeepsChain s chain) (sym store) kept, subst (IsProducerOf chain) (sym producer) over, (λ v s there. there))

  pub same_keeps : (answer : Reply) (next : Machine) → GrowsBy machine line answer chain chain → next ≡ machine → Keeps machine line answer chain next
  same_keeps answer next grows same = beside_keeps answer next grows (ap (λ (m : Machine). m.store) same) (ap (λ (m : Machine). m.producer) same)

  pub refused_keeps : (answer : Reply) (next : Machine) (refusal : Refusal) → Refuses machine refusal answer next → Keeps machine line answer chain next
  refused_keeps answer next refusal refuses =
      subst (λ (r : Reply). Keeps machine line r chain next) (sym refuses.0) (same_keeps (reply.Refused refusal) next refl refuses.1)

pub stays_sound : (machine : Machine) → IsSoundMachine machine → (next : Machine) → next ≡ machine → IsSoundMachine next
stays_sound machine sound next same = subst IsSoundMachine (sym same) sound

pub same_of : (machine : Machine) (chain : Chain) → IsReaderOf chain machine → (next : Machine) → next ≡ machine → IsReaderOf chain next
same_of machine chain of next same = subst (IsReaderOf chain) (sym same) of

-- a consumer that is at a version of the chain is at a state of it
pub reader_in : (chain : Chain) (consumer : Option Position) (version : Option ℕ) (past : List (ℕ × Table)) → IsReaderAt chain consumer version past → IsConsumerOf chain consumer
reader_in chain None version past of = tt
reader_in chain (Some now) version past of = of.0

pub says_both : (one other : Reply) (next after : Machine) → (one ≡ other) × (next ≡ after) → SaysOne one other × (next ≡ after)
says_both one other next after (same, and) = (says one other same, and)

-- ---- orders that look

pub looks_lawful : (kind : Kind) (Answers : Option Position → (shape kind).Asked → Reply → Type 0) (of_state : Bool)
    → ((consumer : Option Position) (asked : (shape kind).Asked) (one other : Reply) → IfSome consumer IsTyped → Answers consumer asked one → Answers consumer asked other → SaysOne one other)
    → ((consumer : Option Position) (asked : (shape kind).Asked) (answer : Reply) → Answers consumer asked answer → IsUnpublished answer)
    → (of_state ≡ true → (machine fresh : Machine) (chain : Chain) → IsChain chain → IsConsumerOf chain machine.consumer → Fresh chain machine fresh → (asked : (shape kind).Asked) (answer : Reply)
    → Answers machine.consumer asked answer → Answers fresh.consumer asked answer)
    → IsLawful kind (looking Answers of_state)
looks_lawful k Answers of_state one none afresh = record {
  once = λ written machine sound asked answer other next after is also. (one machine.consumer asked answer other sound.1 is.0 also.0, is.1 ∙ sym also.1);
  sound = λ machine sound asked answer next is. stays_sound machine sound next is.1;
  keeps = λ machine chain kept over line order orders asked asks_it answer next is.
      same_keeps machine line chain kept over answer next (unless_published machine line chain answer (none machine.consumer asked answer is.0)) is.1;
  moves = λ machine chain holds of asked answer next is. same_of machine chain of next is.1;
  afresh = λ can machine fresh chain sound of is_fresh asked answer next is. (afresh can machine fresh chain sound of is_fresh asked answer is.0, refl);
}

-- ---- orders that leave the store and the producer

-- The store and the producer are as they were; the rows of a consumer are of its model, where they were; and a consumer that stood in the chain stands in it.
pub record IsLeft (machine next : Machine) : Type 0 where
  pub store : next.store ≡ machine.store
  pub producer : next.producer ≡ machine.producer
  pub typed : IfSome machine.consumer IsTyped → IfSome next.consumer IsTyped
  pub moves : (chain : Chain) → HoldsChain machine.store chain → IsReaderOf chain machine → IsReaderOf chain next

pub left_same : (machine next : Machine) → next ≡ machine → IsLeft machine next
left_same machine next same = record {
  store = ap (λ (m : Machine). m.store) same;
  producer = ap (λ (m : Machine). m.producer) same;
  typed = λ typed. subst (λ (m : Machine). IfSome m.consumer IsTyped) (sym same) typed;
  moves = λ chain holds of. same_of machine chain of next same;
}

pub left_on : (machine between next : Machine) → IsLeft machine between → IsLeft between next → IsLeft machine next
left_on machine between next first then = record {
  store = then.store ∙ first.store;
  producer = then.producer ∙ first.producer;
  typed = λ typed. then.typed (first.typed typed);
  moves = λ chain holds of. then.moves chain (subst (λ (s : Store). HoldsChain s chain) (sym first.store) holds) (first.moves chain holds of);
}

left_sound : (machine : Machine) → IsSoundMachine machine → (next : Machine) → IsLeft machine next → IsSoundMachine next
left_sound machine sound next left = (subst (λ (producer : Option Published). IfSome producer IsOnce) (sym left.producer) sound.0, left.typed sound.1)

-- what such an order leaves, with an answer that tells of no version that it was published
abbrev pub LeavesOf : {Asked : Type 0} → OrderForm Asked → Type 0
LeavesOf {Asked} form =
    (machine : Machine) (asked : Asked) (answer : Reply) (next : Machine) → StepBy form machine asked answer next → IsUnpublished answer × IsLeft machine next

pub moves_lawful : (kind : Kind) (form : OrderForm (shape kind).Asked) → answers_of_state form ≡ false → IsOneOf form → LeavesOf form → IsLawful kind form
moves_lawful k form not one leaves = record {
  once = one;
  sound = λ machine sound asked answer next is. left_sound machine sound next (leaves machine asked answer next is).1;
  keeps = λ machine chain kept over line order orders asked asks_it answer next is.
      (let (none, left) = leaves machine asked answer next is in
      beside_keeps machine line chain kept over answer next (unless_published machine line chain answer none) left.store left.producer);
  moves = λ machine chain holds of asked answer next is. (leaves machine asked answer next is).1.moves chain holds of;
  afresh = λ can. absurd cc;
}
