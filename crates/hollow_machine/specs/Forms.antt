-- What the orders of a kind are answered.
use Rattle.std.specs.Prelude.{◌≡◌, Option, Bool, false}
use Rattle.hol_answers.specs.declared.refusal.Refusal.{Refusal}
use Rattle.hol_answers.specs.declared.reply.Reply.{Reply}
use Rattle.hol_answers.specs.declared.reply.Reply.TheVariants.{Refused}
use Rattle.read_engine.specs.Position.{Position}
use Rattle.hollow_machine.specs.State.{Machine}

-- What the orders of a kind that ask for such a thing are answered. Orders that look are answered of where the consumer stands, and change nothing: the
-- answer to what is asked; and whether it is that of the consumer's state, however the consumer came to it. Orders that move may change the machine: the
-- answer to what is asked, and the machine behind it.
pub data OrderForm (Asked : Type 0) : Type 1 where
  looking : (Option Position → Asked → Reply → Type 0) → Bool → OrderForm Asked
  moving : (Machine → Asked → Reply → Machine → Type 0) → OrderForm Asked

-- What is answered to what is asked by the form, and the machine behind it.
abbrev pub StepBy : {Asked : Type 0} → OrderForm Asked → Machine → Asked → Reply → Machine → Type 0
StepBy (looking Answers of_state) machine asked reply next = Answers machine.consumer asked reply × (next ≡ machine)
StepBy (moving Leads) machine asked reply next = Leads machine asked reply next

-- Whether the answer is that of the consumer's state, however the consumer came to it.
abbrev pub answers_of_state : {Asked : Type 0} → OrderForm Asked → Bool
answers_of_state (looking Answers of_state) = of_state
answers_of_state (moving Leads) = false

-- The form is of orders that look.
abbrev pub IsLooking : {Asked : Type 0} → OrderForm Asked → Type 0
IsLooking (looking Answers of_state) = Unit {0}
IsLooking (moving Leads) = ⊥

-- What a look is answered of where the consumer stands.
abbrev pub LooksBy : {Asked : Type 0} → OrderForm Asked → Option Position → Asked → Reply → Type 0
LooksBy (looking Answers of_state) consumer asked reply = Answers consumer asked reply
LooksBy (moving Leads) consumer asked reply = ⊥

-- The answer is this refusal, and the machine is as it was.
abbrev pub Refuses : Machine → Refusal → Reply → Machine → Type 0
Refuses machine refusal reply next = (reply ≡ Refused refusal) × (next ≡ machine)
