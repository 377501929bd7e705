-- The laws of the order `check`.
use Rattle.std.proofs.Common.{◌≡◌, ℕ, List, length, Option, Some, None, Result, Ok, Err, refl, sym, ap, subst, ◌∙◌}
use Rattle.std.specs.Prelude.{IfSome}
use Rattle.std.specs.FinMap.{get}
use Rattle.hol_io.specs.declared.name.BlobName.{BlobName}
use Rattle.hol_io.specs.declared.name.BlobName.TheVariants.{Snapshot}
use Rattle.hol_io.specs.Name.{step_name}
use Rattle.hol_io.specs.Store.{Store}
use Rattle.chain_check.specs.Walk.{compared_in}
use Rattle.read_engine.specs.Position.{Position}
use Rattle.read_engine.specs.Taking.{StepsBy}
use Rattle.hol_orders.specs.declared.kind.Kind.{Kind}
use Rattle.hol_answers.specs.declared.refusal.Refusal.{Refusal}
use Rattle.hol_answers.specs.declared.refusal.Refusal.TheVariants.{Mismatch}
use Rattle.hol_answers.specs.declared.reply.Reply.{Reply}
use Rattle.hol_answers.specs.declared.reply.Reply.TheVariants as reply
use Rattle.hollow_machine.proofs.Refusals.{one_snapshot_refusal, one_step_refusal, some_one}
use Rattle.hollow_machine.specs.CheckOrder.{CheckReply, WalkLoads, WalkSteps, both_new, check_form, walk_calls}
use Rattle.hollow_machine.specs.StepOrder.{StepRefusal}
use Rattle.chain_laws.proofs.Answering.{IsUnpublished, unless_published}
use Rattle.chain_laws.proofs.ConsumerOrders.{no_refusal}
use Rattle.chain_laws.proofs.Lawful.{IsLawful, same_keeps, same_of, says_both, stays_sound}
use Rattle.chain_laws.proofs.OneMove.{step_once}
use Rattle.chain_laws.proofs.OneRestore.{stored_apart, stored_once}
use Rattle.chain_laws.proofs.OneWalk.{Ending, Ends, passed, differs, refused, differs_end, ends_one, passes_end, stops_end}
use Rattle.chain_laws.proofs.TypedConsumers.{IsTyped, load_typed, step_typed}

-- ---- the calls of a walk

module _ (store : Store) where
  abbrev stored_at : BlobName → Option (List ℕ)
  stored_at name = get store name

  loads_one : (version : ℕ) (before now also : Option Position) (one other : Result (Unit {0}) Refusal) → WalkLoads (Some store) version before now one → WalkLoads (Some store) version before also other
      → (one ≡ other) × (now ≡ also)
  loads_one version before now also (Ok done) (Ok finished) (position, stored, is) (place, stored_too, is_too) =
      (refl, is ∙ ap Some (stored_once store version position place stored stored_too) ∙ sym is_too)
  loads_one version before now also (Ok done) (Err refusal) (position, stored, is) other = absurd (stored_apart store version position refusal stored other.0)
  loads_one version before now also (Err refusal) (Ok done) one (position, stored, is) = absurd (stored_apart store version position refusal stored one.0)
  loads_one version before now also (Err r) (Err s) one other = (ap Err (one_snapshot_refusal (Snapshot version) (stored_at (Snapshot version)) r s one.0 other.0), one.1 ∙ sym other.1)

  loads_typed : (version : ℕ) (before now : Option Position) → WalkLoads (Some store) version before now (Ok tt) → IfSome now IsTyped
  loads_typed version before now (position, (blob, at, loads), is) = subst (λ (consumer : Option Position). IfSome consumer IsTyped) (sym is) (load_typed blob position loads)

  -- what a step from this position is answered in place of a refusal
  steps_not : (from to : ℕ) (at position : Position) (blob : List ℕ) (refusal : Refusal) → IsTyped at → stored_at (step_name from to) ≡ Some blob → StepsBy blob at position
      → StepRefusal (step_name from to) (stored_at (step_name from to)) (Some at) refusal → ⊥
  steps_not from to at position blob refusal typed there steps refuses = no_refusal (step_name from to) (stored_at (step_name from to)) blob at position there typed steps refusal refuses

  steps_one : (from to : ℕ) (before now also : Option Position) (one other : Result (Unit {0}) Refusal) → IfSome before IsTyped → WalkSteps (Some store) from to before now one
      → WalkSteps (Some store) from to before also other → (one ≡ other) × (now ≡ also)
  steps_one from to None now also (Ok done) other typed one two = absurd one
  steps_one from to None now also (Err refusal) (Ok done) typed one two = absurd two
  steps_one from to (Some at) now also (Ok done) (Ok finished) typed (blob, position, there, steps, is) (bytes, place, there_too, steps_too, is_too) =
      let same = some_one (stored_at (step_name from to)) bytes blob there_too there in
      let moved = step_once blob at position place typed steps (subst (λ (b : List ℕ). StepsBy b at place) same steps_too) in
      (refl, is ∙ ap Some moved ∙ sym is_too)
  steps_one from to (Some at) now also (Ok done) (Err refusal) typed (blob, position, there, steps, is) other = absurd (steps_not from to at position blob refusal typed there steps other.0)
  steps_one from to (Some at) now also (Err refusal) (Ok done) typed one (blob, position, there, steps, is) = absurd (steps_not from to at position blob refusal typed there steps one.0)
  steps_one from to before now also (Err r) (Err s) typed one other =
      (ap Err (one_step_refusal (step_name from to) (stored_at (step_name from to)) before r s one.0 other.0), one.1 ∙ sym other.1)

  steps_typed : (from to : ℕ) (before now : Option Position) → IfSome before IsTyped → WalkSteps (Some store) from to before now (Ok tt) → IfSome now IsTyped
  steps_typed from to None now typed steps = absurd steps
  steps_typed from to (Some at) now typed (blob, position, there, steps, is) = subst (λ (consumer : Option Position). IfSome consumer IsTyped) (sym is) (step_typed blob at position typed steps)

  -- ---- the answer

  -- the answer to a walk over these versions that ends so
  abbrev reply_of : List ℕ → Ending Refusal → Reply
  reply_of versions passed = reply.Check (compared_in store versions) (length versions)
  reply_of versions (differs version place) = reply.Refused (Mismatch (record { version = version; type_name = place.type_name; ordinal = place.ordinal }))
  reply_of versions (refused refusal) = reply.Refused refusal

  abbrev EndsWith : List ℕ → Reply → Type 0
  EndsWith versions answer = (end : Ending Refusal) × Ends walk_calls store None versions both_new end × (answer ≡ reply_of versions end)

  ends_with : (versions : List ℕ) (answer : Reply) → CheckReply store versions answer → EndsWith versions answer
  ends_with versions (reply.Check compared states) (count, many, (now, passes)) =
      (passed, passes_end walk_calls store versions None both_new now passes, (λ i. reply.Check (many i) (count i)))
  ends_with versions (reply.Refused (Mismatch difference)) (now, is) = (
    differs difference.version (record { type_name = difference.type_name; ordinal = difference.ordinal }),
    differs_end walk_calls store versions both_new now difference.version difference.type_name difference.ordinal is,
    refl,
  )
  ends_with versions (reply.Refused refusal) is = (refused refusal, stops_end walk_calls store versions both_new is.1 is.0 refusal is.2, refl)
  ends_with versions _ is = absurd is

  pub one_check : (versions : List ℕ) (one other : Reply) → CheckReply store versions one → CheckReply store versions other → one ≡ other
  one_check versions one other is also =
      let (end, ends, answer_is) = ends_with versions one is in
      let (last, ends_too, other_is) = ends_with versions other also in
      let same = ends_one walk_calls store (λ (consumer : Option Position). IfSome consumer IsTyped) loads_one steps_one loads_typed steps_typed versions None both_new end last tt ends ends_too in
      answer_is ∙ ap (reply_of versions) same ∙ sym other_is

  unpublished : (versions : List ℕ) (answer : Reply) → CheckReply store versions answer → IsUnpublished answer
  unpublished versions (reply.Check compared states) is = refl
  unpublished versions (reply.Refused refusal) is = refl
  unpublished versions _ is = absurd is

pub check_lawful : IsLawful Kind.Check check_form
check_lawful = record {
  once = λ written machine sound versions one other next after is also. says_both one other next after (one_check machine.store versions one other is.0 also.0, is.1 ∙ sym also.1);
  sound = λ machine sound versions answer next is. stays_sound machine sound next is.1;
  keeps = λ machine chain kept over line order orders versions asks_it answer next is.
      same_keeps machine line chain kept over answer next (unless_published machine line chain answer (unpublished machine.store versions answer is.0)) is.1;
  moves = λ machine chain holds of versions answer next is. same_of machine chain of next is.1;
  afresh = λ can. absurd cc;
}
