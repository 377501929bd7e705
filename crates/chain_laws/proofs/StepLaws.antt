-- The laws of the order `step`.
use Rattle.std.proofs.Common.{◌≡◌, ℕ, List, ◌∷◌, Option, Some, refl, sym, ap, subst}
use Rattle.std.specs.Prelude.{All, IfSome}
use Rattle.std.specs.FinMap.{get}
use Rattle.std.proofs.lemmas.List.Elements.{All-cons, All-take}
use Rattle.hol_io.specs.declared.name.BlobName.{BlobName}
use Rattle.hol_io.specs.Name.{step_name}
use Rattle.schema_model.specs.declared.schema.Schema.{Schema}
use Rattle.row_model.specs.Table.{Table}
use Rattle.hol_orders.specs.declared.kind.Kind.{Kind}
use Rattle.hol_answers.specs.declared.reply.Reply.{Reply}
use Rattle.hol_answers.specs.declared.reply.Reply.TheVariants as reply
use Rattle.read_engine.specs.Position.{Position, rows_now}
use Rattle.read_engine.specs.Taking.{StepsBy}
use Rattle.hollow_machine.specs.State.{Machine, past_behind, stepped_to}
use Rattle.hollow_machine.specs.StepOrder.{StepStep, step_form}
use Rattle.written_laws.specs.Chain.{Chain}
use Rattle.written_laws.specs.HoldsChain.{HoldsChain}
use Rattle.chain_laws.specs.Consumers.{IsIn, IsOld, IsReaderAt, IsReaderOf}
use Rattle.chain_laws.proofs.Answering.{IsUnpublished}
use Rattle.chain_laws.proofs.ConsumerMoves.{IsBetween, steps_at}
use Rattle.chain_laws.proofs.ConsumerOrders.{step_between}
use Rattle.chain_laws.proofs.StoreNames.{found_with}
use Rattle.chain_laws.proofs.TypedConsumers.{IsTyped, step_typed}
use Rattle.chain_laws.proofs.Lawful.{IsLawful, IsLeft, left_same, moves_lawful, says_both}
use Rattle.chain_laws.proofs.OneMove.{one_move}

-- what is kept of older states behind a step is that of versions of the chain
past_in : (chain : Chain) (bound : ℕ) (now : Position) (consumer : Option Position) (is : IsIn chain now) (version : Option ℕ) (past : List (ℕ × Table)) → consumer ≡ Some now → version ≡ Some is.version
    → All (IsOld chain now.schemas) past → All (IsOld chain now.schemas) (past_behind bound consumer version past)
past_in chain bound now consumer is version past was at old =
    subst (λ (c : Option Position). All (IsOld chain now.schemas) (past_behind bound c version past)) (sym was)
    (subst (λ (v : Option ℕ). All (IsOld chain now.schemas) (past_behind bound (Some now) v past)) (sym at)
    (All-take (IsOld chain now.schemas) bound ((is.version, rows_now now) ∷ past)
    (All-cons (IsOld chain now.schemas) (is.version, rows_now now) past (is.state, is.there, is.sees.rows) old)))

-- a step along a blob of the chain leaves a consumer at its second version
moved_reader : (machine : Machine) (chain : Chain) (holds : HoldsChain machine.store chain) (name : BlobName) (begin version : ℕ) → IsBetween name begin version → (blob : List ℕ) (now position : Position)
    → get machine.store name ≡ Some blob → machine.consumer ≡ Some now → StepsBy blob now position → IsReaderOf chain machine → IsReaderOf chain (stepped_to machine version position)
moved_reader machine chain holds name begin version between blob now position at was steps of =
    let (is, at_version, old) = subst (λ (consumer : Option Position). IsReaderAt chain consumer machine.version machine.past) was of in
    let (there, version_is) = steps_at machine.store chain holds name blob begin version now position between at is steps in (
      there,
      ap (λ (v : ℕ). Some v) (sym version_is),
      subst (λ (schemas : List Schema). All (IsOld chain schemas) (past_behind machine.bound machine.consumer machine.version machine.past)) (sym steps.model)
          (past_in chain machine.bound now machine.consumer is machine.version machine.past was at_version old),
    )

module _ (machine : Machine) (name : BlobName) (begin version : ℕ) (between : IsBetween name begin version) where
  -- what a step along a blob leaves
  pub step_leaves : (answer : Reply) (next : Machine) → StepStep machine name version answer next → IsUnpublished answer × IsLeft machine next
  step_leaves (reply.Step tag) next step =
      let (now, is, (blob, position, at, steps, tag_is, next_is)) = found_with machine.consumer _ step in (
        refl,
        subst (IsLeft machine) (sym next_is) record {
          store = refl;
          producer = refl;
          typed = λ typed. step_typed blob now position (subst (λ (consumer : Option Position). IfSome consumer IsTyped) is typed) steps;
          moves = λ chain holds of. moved_reader machine chain holds name begin version between blob now position at is steps of;
        },
      )
  step_leaves (reply.Refused refusal) next step = (refl, left_same machine next step.1)
  step_leaves _ next step = absurd step

pub step_lawful : IsLawful Kind.Step step_form
step_lawful = moves_lawful Kind.Step step_form refl
    (λ written machine sound asked one other next after is also. says_both one other next after (one_move machine (step_name asked.0 asked.1) asked.1 sound.1 one other next after is also))
    (λ machine asked answer next is. step_leaves machine (step_name asked.0 asked.1) asked.0 asked.1 (step_between asked.0 asked.1) answer next is)
