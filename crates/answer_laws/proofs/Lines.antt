-- A line has an answer.
use Rattle.std.proofs.Common.{◌⊎◌, ℕ, List, inl, inr, refl, length}
use Rattle.std.proofs.lemmas.Bool.{cases_lt}
use Rattle.hol_orders.specs.declared.order.Order.{Order}
use Rattle.hol_orders.specs.Order.{Orders, kind_of}
use Rattle.hol_answers.specs.declared.refusal.Refusal.TheVariants.{BadOrder, LineTooLong}
use Rattle.hol_answers.specs.declared.reply.Reply.{Reply}
use Rattle.hol_answers.specs.declared.reply.Reply.TheVariants.{Refused}
use Rattle.hollow_machine.specs.Script.{LineStep, longest_line}
use Rattle.hollow_machine.specs.State.{Machine}
use Rattle.answer_laws.specs.Answered.{IsAnswered, IsSettled, IsShowing, IsSound}
use Rattle.answer_laws.specs.Shown.{IsShown}
use Rattle.answer_laws.proofs.Deciding.{decide}
use Rattle.answer_laws.proofs.EachKind.{each_answered, each_kind, each_shown}

order_answered : (machine : Machine) (line : List ℕ) (order : Order) → IsSound machine → IsShown machine → Orders line order → IsSettled (kind_of order) ⊎ IsShowing (kind_of order) → IsAnswered machine order
order_answered machine line order sound shown orders (inl settled) = each_answered machine order sound orders.0 settled
order_answered machine line order sound shown orders (inr showing) = each_shown machine order shown showing

pub line_answered : (machine : Machine) (line : List ℕ) → IsSound machine → IsShown machine → ((reply : Reply) (next : Machine) → LineStep machine line reply next → ⊥) → ⊥
line_answered machine line sound shown none = elim (cases_lt longest_line (length line)) [
  | inl long ↦ none (Refused LineTooLong) machine (inl (long, (refl, refl)))
  | inr short ↦ decide ((order : Order) × Orders line order) (λ either. elim either [
    | inl asks ↦ order_answered machine line asks.0 sound shown asks.1 (each_kind (kind_of asks.0)) (λ reply next step. none reply next (inr (short, inr (asks.0, asks.1, step))))
    | inr never ↦ none (Refused BadOrder) machine (inr (short, inl ((λ order orders. never (order, orders)), (refl, refl))))
  ])
]
