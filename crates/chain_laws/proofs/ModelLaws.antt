-- The laws of the order `model`.
use Rattle.std.proofs.Common.{ℕ, List, length, inl, refl, sym, subst, ap}
use Rattle.serde_json.specs.Data.{Data, null}
use Rattle.serde_json.specs.View.{view}
use Rattle.serde_json.specs.declared.value.Value.{Value}
use Rattle.hol_orders.specs.declared.order.Order.TheVariants as order
use Rattle.hol_answers.specs.declared.reply.Reply.{Reply}
use Rattle.hol_answers.specs.declared.reply.Reply.TheVariants as reply
use Rattle.hol_orders.specs.Kind.{shape}
use Rattle.hol_orders.specs.Order.{Asking}
use Rattle.write_engine.proofs.ClosedStates.{none_closed}
use Rattle.hollow_machine.specs.ModelOrder.{ModelStep, model_form}
use Rattle.hollow_machine.specs.State.{Machine}
use Rattle.state_blobs.specs.Published.{new_producer}
use Rattle.written_laws.specs.Chain.{Chain}
use Rattle.chain_laws.specs.Producers.{IsOver, IsProducerOf, KeepsChain}
use Rattle.byte_laws.proofs.ValueTexts.{named_texts}
use Rattle.written_laws.specs.HoldsChain.{HoldsChain}
use Rattle.chain_laws.specs.Consumers.{IsReaderOf}
use Rattle.chain_laws.proofs.LastState.{none_once}
use Rattle.chain_laws.proofs.OneCycle.{IsOnce}
use Rattle.chain_laws.proofs.Lawful.{IsLawful, IsSoundMachine, Keeps, KeepsOf, same_keeps, stays_sound, same_of, says_both}
use Rattle.hol_orders.specs.declared.kind.Kind.{Kind}
use Rattle.chain_laws.proofs.OneModel.{one_model}

module _ (machine : Machine) (line : List ℕ) (chain : Chain) (kept : KeepsChain machine.store chain) (over : IsProducerOf chain machine.producer) where
  model_keeps : (value : Value) (answer : Reply) (next : Machine) → ModelStep machine (view value) answer next → Keeps machine line answer chain next
  model_keeps value (reply.Model types) next (schemas, none, stands, model, count, next_is) =
      let fresh : IsOver chain (new_producer schemas) = record { model = model; texts = named_texts value schemas stands; stands = inl refl } in
      let both = subst (λ (m : Machine). KeepsChain m.store chain × IsProducerOf chain m.producer) (sym next_is) (kept, fresh) in
      (chain, refl, both.0, both.1, (λ v s there. there))
  model_keeps value (reply.Refused refusal) next step = same_keeps machine line chain kept over (reply.Refused refusal) next refl step.1
  model_keeps value _ next step = absurd step

module _ (machine : Machine) (sound : IsSoundMachine machine) where
  model_sound : (value : Data) (answer : Reply) (next : Machine) → ModelStep machine value answer next → IsSoundMachine next
  model_sound value (reply.Model types) next (schemas, none, stands, model, count, next_is) =
      let new : IsOnce (new_producer schemas) = record { model = model; rows = (none_closed schemas).fits; once = none_once (length schemas) } in
      subst IsSoundMachine (sym next_is) (new, sound.1)
  model_sound value (reply.Refused refusal) next step = stays_sound machine sound next step.1
  model_sound value _ next step = absurd step

module _ (machine : Machine) (chain : Chain) (holds : HoldsChain machine.store chain) (of : IsReaderOf chain machine) where
  model_moves : (value : Data) (answer : Reply) (next : Machine) → ModelStep machine value answer next → IsReaderOf chain next
  model_moves value (reply.Model types) next (schemas, none, stands, model, count, next_is) = subst (IsReaderOf chain) (sym next_is) of
  model_moves value (reply.Refused refusal) next step = same_of machine chain of next step.1
  model_moves value _ next step = absurd step

-- what an order of this kind asks for
abbrev schemas_in : (kind : Kind) → (shape kind).Asked → Data
schemas_in Kind.Model schemas = schemas
schemas_in _ asked = null

model_order_keeps : KeepsOf Kind.Model model_form
model_order_keeps machine chain kept over line (order.Model value) orders schemas asks_it answer next step =
    model_keeps machine line chain kept over value answer next
    (subst (λ (json : Data). ModelStep machine json answer next) (sym (ap (λ (asking : Asking). schemas_in asking.kind asking.asked) asks_it)) step)
model_order_keeps machine chain kept over line _ orders schemas asks_it answer next step = let kinds = ap (λ (asking : Asking). asking.kind) asks_it in absurd cc

pub model_lawful : IsLawful Kind.Model model_form
model_lawful = record {
  once = λ written machine sound value one other next after is also. says_both one other next after (one_model machine value one other next after is also);
  sound = λ machine sound value answer next is. model_sound machine sound value answer next is;
  keeps = model_order_keeps;
  moves = λ machine chain holds of value answer next is. model_moves machine chain holds of value answer next is;
  afresh = λ can. absurd cc;
}
