-- What a line leaves of the chain that a store holds, and of the producer over it.
use Rattle.std.proofs.Common.{ℕ, List, [], ◌∷◌, Bool, inl, inr, refl, sym, subst}
use Rattle.hol_answers.specs.declared.reply.Reply.{Reply}
use Rattle.hol_orders.specs.Order.{asked_of, kind_of}
use Rattle.hollow_machine.specs.Script.{LineStep, Script}
use Rattle.hollow_machine.specs.State.{Machine}
use Rattle.written_laws.specs.Chain.{Chain}
use Rattle.chain_laws.specs.Growth.{GrowsAlong}
use Rattle.chain_laws.specs.Producers.{IsProducerOf, KeepsChain}
use Rattle.chain_laws.proofs.EachKind.{laws}
use Rattle.chain_laws.proofs.Lawful.{Keeps, refused_keeps}

module _ (machine : Machine) (line : List ℕ) (chain : Chain) (kept : KeepsChain machine.store chain) (over : IsProducerOf chain machine.producer) where
  pub line_keeps : (answer : Reply) (next : Machine) → LineStep machine line answer next → Keeps machine line answer chain next
  line_keeps answer next (inl long) = refused_keeps machine line chain kept over answer next _ long.1
  line_keeps answer next (inr (short, inl none)) = refused_keeps machine line chain kept over answer next _ none.1
  line_keeps answer next (inr (short, inr (order, orders, step))) = (laws (kind_of order)).keeps machine chain kept over line order orders (asked_of order) refl answer next step

pub script_keeps : (machine next : Machine) (lines : List (List ℕ)) (text : List ℕ) (refused : Bool) (chain : Chain) → Script machine lines text refused next
    → KeepsChain machine.store chain → IsProducerOf chain machine.producer
    → (after : Chain) × GrowsAlong machine lines text chain next after × KeepsChain next.store after × IsProducerOf after next.producer
script_keeps machine next [] text refused chain script kept over =
    let both = subst (λ (m : Machine). KeepsChain m.store chain × IsProducerOf chain m.producer) (sym script.2) (kept, over) in
    (chain, (script.0, script.2, refl), both.0, both.1)
script_keeps machine next (line ∷ lines) text refused chain (answer, between, rest, others, step, later, text_is, refused_is) kept over =
    let (middle, grows, held, moved, extends) = line_keeps machine line chain kept over answer between step in
    let (after, along, still, there) = script_keeps between next lines rest others middle later held moved in
    (after, (answer, between, middle, rest, step, grows, along, text_is), still, there)
