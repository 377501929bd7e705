-- What is promised of each line of a script, over a store that keeps a chain.
use Rattle.std.proofs.Common.{ℕ, List, [], ◌∷◌, Bool, refl, sym, subst}
use Rattle.hol_io.specs.Name.{step_name}
use Rattle.serde_json.specs.View.{view}
use Rattle.hol_orders.specs.declared.order.Order.{Order}
use Rattle.hol_orders.specs.declared.order.Order.TheVariants as order
use Rattle.hol_answers.specs.declared.reply.Reply.{Reply}
use Rattle.hol_answers.specs.declared.reply.Reply.TheVariants as reply
use Rattle.hollow_machine.specs.Script.{LineStep, Script}
use Rattle.hollow_machine.specs.State.{Machine}
use Rattle.hollow_machine.specs.Step.{Step}
use Rattle.written_laws.specs.Chain.{Chain}
use Rattle.chain_laws.specs.Consumers.{IsConsumerOf}
use Rattle.chain_laws.specs.Headline.{AreTrueLines, IsTrueLine, IsTrueOrder, IsTrueStep, StandsOn}
use Rattle.chain_laws.proofs.ConsumerLines.{line_keeps_both}
use Rattle.chain_laws.proofs.ConsumerOrders.{other_only, step_between, step_only}
use Rattle.chain_laws.proofs.Afresh.{afresh_there, walk_afresh}
use Rattle.chain_laws.proofs.Lawful.{reader_in}
use Rattle.chain_laws.proofs.OldRows.{was_as_row, wasget_as_get}
use Rattle.chain_laws.proofs.PlannedMoves.{goto_arrives}
use Rattle.chain_laws.proofs.UnlikeSteps.{unlike_only}

module _ (machine : Machine) (chain : Chain) (stands : StandsOn chain machine) where
  in_chain : IsConsumerOf chain machine.consumer
  in_chain = reader_in chain machine.consumer machine.version machine.past stands.consumer

  true_step : (from to : ℕ) (answer : Reply) (next : Machine) → Step machine (order.Step from to) answer next → IsTrueStep chain machine from to answer next
  true_step from to answer next step = record {
    taken = λ now was starts agrees.
        step_only machine chain (step_name from to) from to now stands.kept.holds (step_between from to) was (subst (IsConsumerOf chain) was in_chain) starts agrees answer next step;
    unlike = λ now was starts apart.
        unlike_only machine chain (step_name from to) from to now stands.kept.holds (step_between from to) was (subst (IsConsumerOf chain) was in_chain) starts apart answer next step;
    other = λ now origin was starts apart. other_only machine (step_name from to) to now origin was starts apart answer next step;
  }

  true_order : (asked : Order) (answer : Reply) (next : Machine) → Step machine asked answer next → IsTrueOrder chain machine asked answer next
  true_order order answer next step = record {
    moves = λ from to is. true_step from to answer next (subst (λ (o : Order). Step machine o answer next) is step);
    goes = λ version progress is answer_is agree.
        goto_arrives machine next chain version progress agree stands.kept.holds stands.consumer
        (subst (λ (o : Order). Step machine o (reply.Goto progress) next) is (subst (λ (r : Reply). Step machine order r next) answer_is step));
    was = λ now version name ordinal is at reaches. was_as_row machine chain stands.consumer now at version reaches name ordinal answer (subst (λ (o : Order). Step machine o answer next) is step).0;
    wasget = λ now version name values is at reaches. wasget_as_get machine chain stands.consumer now at version reaches name (view values) answer (subst (λ (o : Order). Step machine o answer next) is step).0;
    fresh = λ of_state fresh is_fresh. afresh_there machine fresh next chain order answer of_state stands.kept.holds.sound in_chain is_fresh step;
    walks = λ name path is fresh is_fresh.
        (let (after, there, still) = walk_afresh machine fresh chain name path answer stands.kept.holds in_chain is_fresh next (subst (λ (o : Order). Step machine o answer next) is step) in
        (after, subst (λ (o : Order). Step fresh o answer after) (sym is) there, still));
  }

  true_line : (line : List ℕ) (answer : Reply) (next : Machine) → LineStep machine line answer next → (after : Chain) × IsTrueLine chain machine line answer next after
  true_line line answer next step =
      let (after, grows, kept, producer, consumer) = line_keeps_both machine next line answer chain step stands.kept stands.producer stands.consumer in (
        after,
        record {
          step = step;
          grows = grows;
          stands = record { kept = kept; producer = producer; consumer = consumer };
          order = λ asked orders is. true_order asked answer next is;
        },
      )

pub true_lines : (chain : Chain) (machine next : Machine) (lines : List (List ℕ)) (text : List ℕ) (refused : Bool) → StandsOn chain machine → Script machine lines text refused next
    → (after : Chain) × AreTrueLines chain machine lines text next after × StandsOn after next
true_lines chain machine next [] text refused stands script = (chain, (script.0, script.2, refl), subst (StandsOn chain) (sym script.2) stands)
true_lines chain machine next (line ∷ lines) text refused stands (answer, between, rest, others, step, later, text_is, refused_is) =
    let (middle, line_is) = true_line machine chain stands line answer between step in
    let (after, along, last) = true_lines middle between next lines rest others line_is.stands later in
    (after, (answer, between, middle, rest, line_is, along, text_is), last)
