-- The laws of the order `grow`.
use Rattle.std.proofs.Common.{ℕ, List, Option, refl, sym, subst, ap}
use Rattle.std.specs.Prelude.{IfSome}
use Rattle.serde_json.specs.Data.{Data, null}
use Rattle.serde_json.specs.View.{view}
use Rattle.serde_json.specs.declared.value.Value.{Value}
use Rattle.hol_orders.specs.declared.kind.Kind.{Kind}
use Rattle.hol_orders.specs.declared.order.Order.TheVariants as order
use Rattle.hol_orders.specs.Kind.{shape}
use Rattle.hol_orders.specs.Order.{Asking}
use Rattle.hol_answers.specs.declared.reply.Reply.{Reply}
use Rattle.hol_answers.specs.declared.reply.Reply.TheVariants as reply
use Rattle.hollow_machine.specs.GrowOrder.{GrowsOn, GrowStep, grow_form}
use Rattle.hollow_machine.specs.State.{Machine}
use Rattle.state_blobs.specs.Published.{Published}
use Rattle.written_laws.specs.Chain.{Chain}
use Rattle.chain_laws.specs.Consumers.{IsReaderOf}
use Rattle.chain_laws.specs.Producers.{IsOver, IsProducerOf, KeepsChain}
use Rattle.chain_laws.proofs.GrownProducers.{grown_holds_once, grown_over}
use Rattle.chain_laws.proofs.Lawful.{IsLawful, IsSoundMachine, Keeps, KeepsOf, same_keeps, same_of, says_both, stays_sound}
use Rattle.chain_laws.proofs.OneCycle.{IsOnce}
use Rattle.chain_laws.proofs.OneGrow.{one_grow}
use Rattle.chain_laws.proofs.StoreNames.{found_with}
use Rattle.byte_laws.proofs.ValueTexts.{named_texts}

module _ (machine : Machine) (line : List ℕ) (chain : Chain) (kept : KeepsChain machine.store chain) (over : IsProducerOf chain machine.producer) where
  grow_keeps : (value : Value) (answer : Reply) (next : Machine) → GrowStep machine (view value) answer next → Keeps machine line answer chain next
  grow_keeps value (reply.Grow types) next some =
      let (last, is, (schemas, stands, model, grows, count, next_is)) = found_with machine.producer (GrowsOn machine (view value) types next) some in
      let last_over = subst (λ (producer : Option Published). IfSome producer (IsOver chain)) is over in
      let grown = grown_over last schemas model grows chain kept.holds.sound last_over (named_texts value schemas stands) in
      let both = subst (λ (m : Machine). KeepsChain m.store chain × IsProducerOf chain m.producer) (sym next_is) (kept, grown) in
      (chain, refl, both.0, both.1, (λ v s there. there))
  grow_keeps value (reply.Refused refusal) next step = same_keeps machine line chain kept over (reply.Refused refusal) next refl step.1
  grow_keeps value _ next step = absurd step

module _ (machine : Machine) (sound : IsSoundMachine machine) where
  grow_sound : (value : Data) (answer : Reply) (next : Machine) → GrowStep machine value answer next → IsSoundMachine next
  grow_sound value (reply.Grow types) next some =
      let (last, is, (schemas, stands, model, grows, count, next_is)) = found_with machine.producer (GrowsOn machine value types next) some in
      let once = subst (λ (producer : Option Published). IfSome producer IsOnce) is sound.0 in
      subst IsSoundMachine (sym next_is) (grown_holds_once last schemas model grows once, sound.1)
  grow_sound value (reply.Refused refusal) next step = stays_sound machine sound next step.1
  grow_sound value _ next step = absurd step

module _ (machine : Machine) (chain : Chain) (of : IsReaderOf chain machine) where
  grow_moves : (value : Data) (answer : Reply) (next : Machine) → GrowStep machine value answer next → IsReaderOf chain next
  grow_moves value (reply.Grow types) next some =
      let (last, is, (schemas, stands, model, grows, count, next_is)) = found_with machine.producer (GrowsOn machine value types next) some in
      subst (IsReaderOf chain) (sym next_is) of
  grow_moves value (reply.Refused refusal) next step = same_of machine chain of next step.1
  grow_moves value _ next step = absurd step

-- what an order of this kind asks for
abbrev schemas_in : (kind : Kind) → (shape kind).Asked → Data
schemas_in Kind.Grow schemas = schemas
schemas_in _ asked = null

grow_order_keeps : KeepsOf Kind.Grow grow_form
grow_order_keeps machine chain kept over line (order.Grow value) orders schemas asks_it answer next step =
    grow_keeps machine line chain kept over value answer next
    (subst (λ (json : Data). GrowStep machine json answer next) (sym (ap (λ (asking : Asking). schemas_in asking.kind asking.asked) asks_it)) step)
grow_order_keeps machine chain kept over line _ orders schemas asks_it answer next step = let kinds = ap (λ (asking : Asking). asking.kind) asks_it in absurd cc

pub grow_lawful : IsLawful Kind.Grow grow_form
grow_lawful = record {
  once = λ written machine sound value one other next after is also. says_both one other next after (one_grow machine value one other next after is also);
  sound = λ machine sound value answer next is. grow_sound machine sound value answer next is;
  keeps = grow_order_keeps;
  moves = λ machine chain holds of value answer next is. grow_moves machine chain of value answer next is;
  afresh = λ can. absurd cc;
}
