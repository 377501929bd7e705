-- What a line of an input asks for, and which machine is behind it.
use Rattle.std.specs.Prelude.{List, ℕ}
use Rattle.state_blobs.specs.Puts.{Put}
use Rattle.hol_orders.specs.Order.{IsOrder}
use Rattle.hol_answers.specs.declared.reply.Reply.{Reply}
use Rattle.hollow_machine.specs.Forms.{Refuses}
use Rattle.hollow_machine.specs.Script.{LineStep}
use Rattle.hollow_machine.specs.State.{Machine}
use Rattle.hollow_machine.specs.Step.{Step}
use Rattle.hollow_machine.specs.Puts.{LinePuts, OrderPuts}
use Rattle.hollow_script.specs.declared.asked.Asked.{Asked}
use Rattle.hollow_script.specs.declared.asked.Asked.TheVariants as asked

-- The order that is asked for is in its ranges.
abbrev pub MeetsOrder : Asked → Type 0
MeetsOrder (asked.Order order) = IsOrder order
MeetsOrder (asked.Refused refusal) = Unit {0}

-- What the machine answers to what is asked for.
abbrev pub AskedStep : Machine → Asked → Reply → Machine → Type 0
AskedStep machine (asked.Order order) reply next = Step machine order reply next
AskedStep machine (asked.Refused refusal) reply next = Refuses machine refusal reply next

-- The puts of what is asked for.
abbrev pub AskedPuts : Asked → Machine → List Put → Type 0
AskedPuts (asked.Order order) machine puts = OrderPuts order machine puts
AskedPuts (asked.Refused refusal) machine puts = ⊥

-- The line asks for this: what that is answered, the line is; and what that puts, the line does.
pub record Asks (line : List ℕ) (asked : Asked) : Type 0 where
  pub answers : (machine : Machine) (reply : Reply) (next : Machine) → AskedStep machine asked reply next → LineStep machine line reply next
  pub puts : (machine : Machine) (some : List Put) → AskedPuts asked machine some → LinePuts line machine some
