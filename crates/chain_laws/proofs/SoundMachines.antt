-- What is known of the producer and the consumer of a run, over whichever store: it is so at the start, and after each line.
use Rattle.std.proofs.Common.{ℕ, List, inl, inr}
use Rattle.hol_orders.specs.Order.{asked_of, kind_of}
use Rattle.hol_answers.specs.declared.reply.Reply.{Reply}
use Rattle.hollow_machine.specs.Script.{LineStep}
use Rattle.hollow_machine.specs.State.{Machine}
use Rattle.chain_laws.proofs.EachKind.{laws}
use Rattle.chain_laws.proofs.Lawful.{IsSoundMachine, stays_sound}

pub line_sound : (machine : Machine) → IsSoundMachine machine → (line : List ℕ) (answer : Reply) (next : Machine) → LineStep machine line answer next → IsSoundMachine next
line_sound machine sound line answer next (inl long) = stays_sound machine sound next long.1.1
line_sound machine sound line answer next (inr (short, inl none)) = stays_sound machine sound next none.1.1
line_sound machine sound line answer next (inr (short, inr (order, orders, step))) = (laws (kind_of order)).sound machine sound (asked_of order) answer next step
