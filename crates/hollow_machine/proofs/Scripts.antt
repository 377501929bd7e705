-- Scripts one behind the other, and what a refusal leaves.
use Rattle.std.proofs.Common.{◌≡◌, inl, inr, ℕ, List, [], ◌∷◌, ◌++◌, Bool, true, false, if◌then◌else◌, refl, sym, ap, ◌∙◌, append_assoc, subst}
use Rattle.hol_orders.specs.declared.order.Order.{Order}
use Rattle.hol_orders.specs.declared.kind.Kind.{Kind}
use Rattle.hol_orders.specs.Kind.{shape}
use Rattle.hol_orders.specs.Order.{asked_of, kind_of}
use Rattle.hol_answers.specs.declared.refusal.Refusal.{Refusal}
use Rattle.hol_answers.specs.declared.reply.Reply.TheVariants.{Refused}
use Rattle.hol_answers.specs.Reply.{is_refusal, line_of}
use Rattle.hollow_machine.specs.Forms.{StepBy}
use Rattle.hollow_machine.specs.Script.{LineStep, Script}
use Rattle.hollow_machine.specs.State.{Machine}
use Rattle.hollow_machine.specs.Step.{Step, form}

-- an order that is refused changes nothing
kind_unchanged : (kind : Kind) (machine next : Machine) (asked : (shape kind).Asked) (refusal : Refusal) → StepBy (form kind) machine asked (Refused refusal) next → next ≡ machine
kind_unchanged Kind.Model machine next asked refusal is = is.1
kind_unchanged Kind.History machine next asked refusal is = absurd is
kind_unchanged _ machine next asked refusal is = is.1

order_unchanged : (machine next : Machine) (order : Order) (refusal : Refusal) → Step machine order (Refused refusal) next → next ≡ machine
order_unchanged machine next order refusal step = kind_unchanged (kind_of order) machine next (asked_of order) refusal step

pub unchanged : (machine next : Machine) (line : List ℕ) (refusal : Refusal) → LineStep machine line (Refused refusal) next → next ≡ machine
unchanged machine next line refusal (inl long) = long.1.1
unchanged machine next line refusal (inr (short, inl none)) = none.1.1
unchanged machine next line refusal (inr (short, inr (order, is, step))) = order_unchanged machine next order refusal step

either_either : (a b c : Bool) → (if (if a then true else b) then true else c) ≡ (if a then true else (if b then true else c))
either_either true b c = refl
either_either false b c = refl

pub join : (machine between next : Machine) (lines others : List (List ℕ)) (text rest : List ℕ) (refused also : Bool) →
    Script machine lines text refused between → Script between others rest also next →
    Script machine (lines ++ others) (text ++ rest) (if refused then true else also) next
join machine between next [] others text rest refused also (none, not, same) second =
    subst (λ m. Script m others (text ++ rest) (if refused then true else also) next) same
    (subst (λ (t : List ℕ). Script between others (t ++ rest) (if refused then true else also) next) (sym none)
    (subst (λ (b : Bool). Script between others rest (if b then true else also) next) (sym not) second))
join machine between next (line ∷ lines) others text rest refused also (reply, mid, tail, later, step, script, text_is, refused_is) second =
    let joined = join mid between next lines others tail rest later also script second in (
      reply,
      mid,
      tail ++ rest,
      (if later then true else also),
      step,
      joined,
      ap (λ t. t ++ rest) text_is ∙ append_assoc (line_of reply) tail rest,
      ap (λ b. (if b then true else also)) refused_is ∙ either_either (is_refusal reply) later also,
    )
