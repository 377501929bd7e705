-- The order `goto` has an answer: a plan is gone along up to the first blob that is refused.
use Rattle.std.proofs.Common.{◌≡◌, ◌+◌, ℕ, List, [], ◌∷◌, length, false, Option, None, Some, IfSome, inl, inr, refl, subst}
use Rattle.std.specs.Prelude.{IsSomeAnd}
use Rattle.std.specs.Option.{option_map}
use Rattle.hol_io.specs.declared.name.BlobName.{BlobName}
use Rattle.hol_io.specs.declared.name.BlobName.TheVariants.{Snapshot, Delta, Reverse, Announced}
use Rattle.hol_io.specs.Store.{names, told}
use Rattle.hol_plan.specs.Walk.{IsWalk, Leads}
use Rattle.read_engine.specs.Position.{Position}
use Rattle.read_engine.specs.Taking.{StepsBy}
use Rattle.step_laws.specs.Typed.{HasTypes}
use Rattle.step_laws.proofs.Typing.{load_typed, step_typed}
use Rattle.hol_answers.specs.declared.refusal.Refusal.{Refusal}
use Rattle.hol_answers.specs.declared.refusal.Refusal.TheVariants as refusal
use Rattle.hol_answers.specs.declared.reply.Reply.{Reply}
use Rattle.hol_answers.specs.declared.reply.Reply.TheVariants as reply
use Rattle.hol_answers.specs.Reply.{is_refusal}
use Rattle.hollow_machine.specs.PlanOrders.{Applies, Goes, goto_form}
use Rattle.hollow_machine.specs.State.{Machine, loaded_to, stepped_to}
use Rattle.hollow_machine.specs.StepOrder.{StepStep}
use Rattle.answer_laws.specs.Answered.{IsAnsweredBy, IsSound}
use Rattle.answer_laws.proofs.Blobs.{loads_or_refused, moved, steps_or_refused}
use Rattle.answer_laws.proofs.Deciding.{decide}
use Rattle.answer_laws.proofs.Plans.{some_plan}

-- ---- one blob

-- where a step leads it has types
pub stepped_typed : (consumer : Option Position) → IfSome consumer HasTypes → (blob : List ℕ) (to : Position) → IsSomeAnd consumer (λ now. StepsBy blob now to) → HasTypes to
stepped_typed None typed blob to steps = absurd steps
stepped_typed (Some now) typed blob to steps = step_typed blob now to typed steps

-- A machine that is sound behind an answer that is no refusal.
abbrev Moves : Machine → BlobName → Reply → Machine → Type 0
Moves machine name answer next = Applies machine name answer next × (is_refusal answer ≡ false) × IsSound next

module _ (machine : Machine) (sound : IsSound machine) where
  step_applies : (name : BlobName) (version : ℕ) → ((answer : Reply) (next : Machine) → StepStep machine name version answer next → is_refusal answer ≡ false → IsSound next → ⊥)
      → ((refused : Refusal) → StepStep machine name version (reply.Refused refused) machine → ⊥) → ⊥
  step_applies name version moves refuses =
      let content = told (Some machine.store) name in
      steps_or_refused name content (sound.bytes name) machine.consumer sound.consumer
      (λ blob to there steps. moves (reply.Step to.tag) (stepped_to machine version to)
      (moved machine.consumer (λ now. StepsBy blob now to)
      (λ now. (found : List ℕ) × (behind : Position) × (content ≡ Some found) × StepsBy found now behind × (to.tag ≡ behind.tag) × (stepped_to machine version to ≡ stepped_to machine version behind))
      (λ now by. (blob, to, there, by, refl, refl)) steps)
      refl (record { bytes = sound.bytes; producer = sound.producer; spelled = sound.spelled; consumer = stepped_typed machine.consumer sound.consumer blob to steps }))
      (λ refused tells. refuses refused (tells, refl))

  load_applies : (version : ℕ) → ((answer : Reply) (next : Machine) → Moves machine (Snapshot version) answer next → ⊥) → ((refused : Refusal) → Applies machine (Snapshot version) (reply.Refused refused) machine → ⊥) → ⊥
  load_applies version moves refuses =
      loads_or_refused (Snapshot version) (told (Some machine.store) (Snapshot version)) (sound.bytes (Snapshot version))
      (λ blob position there loads. moves (reply.Load position.tag) (loaded_to machine version position)
      ((blob, position, there, loads, refl, refl), refl, record { bytes = sound.bytes; producer = sound.producer; spelled = sound.spelled; consumer = load_typed blob position loads }))
      (λ refused tells. refuses refused (tells, refl))

  -- that a blob is neither applied nor refused cannot be
  applies_or_refused : (name : BlobName) → (name ≡ Announced → ⊥) → ((answer : Reply) (next : Machine) → Moves machine name answer next → ⊥) → ((refused : Refusal) → Applies machine name (reply.Refused refused) machine → ⊥) → ⊥
  applies_or_refused (Snapshot version) blob moves refuses = load_applies version moves refuses
  applies_or_refused (Delta from to) blob moves refuses = step_applies (Delta from to) to (λ answer next is said keeps. moves answer next (is, said, keeps)) refuses
  applies_or_refused (Reverse from to) blob moves refuses = step_applies (Reverse from to) to (λ answer next is said keeps. moves answer next (is, said, keeps)) refuses
  applies_or_refused Announced blob moves refuses = blob refl

-- ---- all of a walk

goes_somewhere : (blobs : List BlobName) (to : ℕ) (walk : List BlobName) (from : Option ℕ) → IsWalk blobs from to walk → (machine : Machine) → IsSound machine
    → ((applied : ℕ) (refused : Option Refusal) (next : Machine) → Goes machine walk applied refused next → ⊥) → ⊥
goes_somewhere blobs to [] from walks machine sound none = none 0 None machine (refl, refl, refl)
goes_somewhere blobs to (name ∷ rest) from walks machine sound none =
    applies_or_refused machine sound name (λ same. subst (λ n. Leads n from walks.1.0) same walks.1.1.0)
    (λ answer between moves. goes_somewhere blobs to rest (Some walks.1.0) walks.1.1.1 between moves.2 (λ applied refused next goes.
    none (1 + applied) refused next (inr (answer, between, applied, moves.0, moves.1, refl, goes))))
    (λ why applies. none 0 (Some why) machine (inl (why, applies, refl, refl)))

-- ---- the order

pub goto_answered : (machine : Machine) → IsSound machine → (wanted : ℕ) → IsAnsweredBy goto_form machine wanted
goto_answered machine sound wanted none = decide ((walk : List BlobName) × IsWalk (names machine.store) machine.version wanted walk) (λ either. elim either [
  | inl some ↦ some_plan (names machine.store) wanted machine.version (λ plan is.
      goes_somewhere (names machine.store) wanted plan machine.version is.walks machine sound (λ applied refused next goes.
      none (reply.Goto (record { applied = applied; of = length plan; refused = refused; tag = option_map (λ now. now.tag) next.consumer })) next (plan, is, refl, goes, refl))) some.0 some.1
  | inr never ↦ none (reply.Refused (refusal.NoPlan machine.version wanted)) machine ((refl, refl, λ walk walks. never (walk, walks)), refl)
])
