-- The order `grow`: what a refusal of it means.
use Rattle.std.proofs.Common.{◌≡◌, ℕ, List, Result, Ok, Err, IfOk, refl, sym, subst}
use Rattle.std.specs.Prelude.{IsSome}
use Rattle.serde_json.specs.Data.{Data}
use Rattle.schema_model.specs.declared.model.rule.Rule.{Rule}
use Rattle.hol_answers.specs.declared.refusal.Refusal.TheVariants.{BadModel}
use Rattle.hol_answers.specs.declared.reply.Reply.{Reply}
use Rattle.hol_answers.specs.declared.reply.Reply.TheVariants.{Refused}
use Rattle.hol_orders.specs.declared.order_stop.OrderStop.{OrderStop}
use Rattle.hollow_machine.specs.GrowOrder.{GrowStep}
use Rattle.hollow_machine.specs.ModelOrder.{BreaksRule, IsNamed}
use Rattle.hollow_machine.specs.State.{Machine}

-- a refusal that names the rule and the type is that of the order
pub broken_refuses : (machine : Machine) (value : Data) (broken : Rule) (t : ℕ) (r : Result Reply OrderStop) → IsSome machine.producer → BreaksRule value broken t →
    IfOk r (λ reply. (name : List ℕ) × (reply ≡ Refused (BadModel broken name)) × IsNamed value t name) → IfOk r (λ reply. GrowStep machine value reply machine)
broken_refuses machine value broken t (Ok reply) there breaks (name, is, named) =
    subst (λ answer. GrowStep machine value answer machine) (sym is) ((there, (t, breaks, named)), refl)
broken_refuses machine value broken t (Err stop) there breaks told = tt
