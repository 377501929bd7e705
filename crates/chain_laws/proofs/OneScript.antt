-- A script has one text and one verdict, and leaves one machine.
use Rattle.std.proofs.Common.{◌≡◌, ◌++◌, ℕ, List, [], ◌∷◌, Bool, true, if◌then◌else◌, Option, Some, None, inl, inr, sym, subst, ◌∙◌, arith}
use Rattle.std.specs.Prelude.{IfSome}
use Rattle.serde_json.specs.Written.{compact_text}
use Rattle.hol_orders.specs.declared.order.Order.{Order}
use Rattle.hol_orders.specs.Order.{Asking, Orders, asked_of, asking, kind_of}
use Rattle.hol_answers.specs.declared.refusal.Refusal.{Refusal}
use Rattle.hol_answers.specs.declared.reply.Reply.{Reply}
use Rattle.hol_io.specs.Store.{Store}
use Rattle.hollow_machine.specs.Forms.{Refuses, StepBy}
use Rattle.hollow_machine.specs.Script.{LineStep, Script}
use Rattle.hollow_machine.specs.State.{Machine}
use Rattle.state_blobs.specs.Published.{Published}
use Rattle.hollow_machine.specs.Step.{Step, form}
use Rattle.written_laws.specs.Chain.{Chain}
use Rattle.chain_laws.specs.Answers.{SaysOne}
use Rattle.chain_laws.specs.Consumers.{IsConsumerOf}
use Rattle.chain_laws.specs.Producers.{IsProducerOf, KeepsChain}
use Rattle.chain_laws.proofs.EachKind.{laws}
use Rattle.chain_laws.proofs.LastState.{last_is}
use Rattle.chain_laws.proofs.Lawful.{IsSoundMachine, says_both}
use Rattle.chain_laws.proofs.OneCycle.{IsOnce, WrittenOnce}
use Rattle.chain_laws.proofs.SoundMachines.{line_sound}
use Rattle.chain_laws.proofs.TypedConsumers.{typed_in}

-- a line is one order at most
abbrev pub OrderOnce : Type 0
OrderOnce = (line : List ℕ) (one other : Order) → Orders line one → Orders line other → asking one ≡ asking other

pub known : (store : Store) (chain : Chain) (producer : Option Published) → KeepsChain store chain → IsProducerOf chain producer → IfSome producer IsOnce
known store chain None kept over = tt
known store chain (Some last) kept over =
    let is = last_is store chain last kept over in
    record { model = over.model; rows = is.state.rows; once = is.once }

module _ (written : WrittenOnce) (machine : Machine) (sound : IsSoundMachine machine) (one other : Reply) (next after : Machine) where
  pub steps_one : (a b : Order) → asking a ≡ asking b → Step machine a one next → Step machine b other after → SaysOne one other × (next ≡ after)
  steps_one a b same step step_too =
      (laws (kind_of a)).once written machine sound (asked_of a) one other next after step
      (subst (λ (x : Asking). StepBy (form x.kind) machine x.asked other after) (sym same) step_too)

  both_refused : (refusal : Refusal) → Refuses machine refusal one next → Refuses machine refusal other after → SaysOne one other × (next ≡ after)
  both_refused refusal first second = says_both one other next after (first.0 ∙ sym second.0, first.1 ∙ sym second.1)

  line_one : OrderOnce → (line : List ℕ) → LineStep machine line one next → LineStep machine line other after → SaysOne one other × (next ≡ after)
  line_one orders line (inl long) (inl also) = both_refused _ long.1 also.1
  line_one orders line (inl long) (inr short) = absurd (let a = long.0 in let b = short.0 in omega (arith, a, b))
  line_one orders line (inr short) (inl long) = absurd (let a = long.0 in let b = short.0 in omega (arith, a, b))
  line_one orders line (inr (short, inl none)) (inr (also, inl neither)) = both_refused _ none.1 neither.1
  line_one orders line (inr (short, inl none)) (inr (also, inr (asked, is, step))) = absurd (none.0 asked is)
  line_one orders line (inr (short, inr (asked, is, step))) (inr (also, inl none)) = absurd (none.0 asked is)
  line_one orders line (inr (short, inr (asked, is, step))) (inr (also, inr (again, is_too, step_too))) =
      steps_one asked again (orders line asked again is is_too) step step_too

pub script_one : WrittenOnce → OrderOnce → (machine next after : Machine) (lines : List (List ℕ)) (text other : List ℕ) (refused also : Bool) → IsSoundMachine machine
    → Script machine lines text refused next → Script machine lines other also after → (text ≡ other) × (refused ≡ also) × (next ≡ after)
script_one written orders machine next after [] text other refused also sound one two = (one.0 ∙ sym two.0, one.1 ∙ sym two.1, one.2 ∙ sym two.2)
script_one written orders machine next after (line ∷ lines) text other refused also sound (answer, between, rest, others, step, later, text_is, refused_is) (said, mid, tail, more, step_too, later_too, other_is, also_is) =
    let (same, there) = line_one written machine sound answer said between mid orders line step step_too in
    let on = script_one written orders between next after lines rest tail others more (line_sound machine sound line answer between step) later
    (subst (λ (m : Machine). Script m lines tail more after) (sym there) later_too) in (
      text_is ∙ (λ i. (compact_text (same.0 i) ++ (10 ∷ [])) ++ on.0 i) ∙ sym other_is,
      refused_is ∙ (λ i. (if same.1 i then true else on.1 i)) ∙ sym also_is,
      on.2,
    )

pub chain_sound : (machine : Machine) (chain : Chain) → KeepsChain machine.store chain → IsProducerOf chain machine.producer → IsConsumerOf chain machine.consumer → IsSoundMachine machine
chain_sound machine chain kept over of = (known machine.store chain machine.producer kept over, typed_in chain machine.consumer kept.holds.sound of)
