-- The orders `plan` and `goto`: the fewest blobs of the store that lead the consumer to a version, which are shown, or gone along.
use Rattle.std.specs.Prelude.{◌≡◌, ◌+◌, ◌⊎◌, ℕ, List, [], ◌∷◌, Option, Some, None, length, false}
use Rattle.std.specs.Option.{option_map}
use Rattle.hol_io.specs.declared.name.BlobName.{BlobName}
use Rattle.hol_io.specs.declared.name.BlobName.TheVariants.{Snapshot, Delta, Reverse, Announced}
use Rattle.hol_io.specs.Store.{names}
use Rattle.hol_plan.specs.Walk.{IsPlan, TellsPlan}
use Rattle.hol_answers.specs.declared.refusal.Refusal.{Refusal}
use Rattle.hol_answers.specs.declared.refusal.Refusal.TheVariants.{NoPlan}
use Rattle.hol_answers.specs.declared.reply.Reply.{Reply}
use Rattle.hol_answers.specs.declared.reply.Reply.TheVariants.{Goto, Plan, Refused}
use Rattle.hol_answers.specs.Reply.{is_refusal}
use Rattle.hollow_machine.specs.Forms.{OrderForm, moving}
use Rattle.hollow_machine.specs.LoadOrder.{LoadStep}
use Rattle.hollow_machine.specs.State.{Machine}
use Rattle.hollow_machine.specs.StepOrder.{StepStep}

-- These are the blobs of the store that lead the consumer from its version, or from none, to the one that is wanted.
abbrev pub IsPlanFor : Machine → ℕ → List BlobName → Type 0
IsPlanFor machine wanted plan = IsPlan (names machine.store) machine.version wanted plan

-- Why there is no plan: no blobs lead there.
abbrev pub PlanRefusal : Machine → ℕ → Refusal → Type 0
PlanRefusal machine wanted (NoPlan from to) = (from ≡ machine.version) × (to ≡ wanted) × TellsPlan (names machine.store) machine.version wanted None
PlanRefusal machine wanted _ = ⊥

-- What `plan` answers: the blobs in the order in which they are applied.
abbrev pub PlanReply : Machine → ℕ → Reply → Type 0
PlanReply machine wanted (Plan blobs) = IsPlanFor machine wanted blobs
PlanReply machine wanted (Refused refusal) = PlanRefusal machine wanted refusal
PlanReply machine wanted _ = ⊥

abbrev pub plan_form : OrderForm ℕ
plan_form = moving (λ machine wanted reply next. PlanReply machine wanted reply × (next ≡ machine))

-- A blob moves the machine as the order does that asks for it, and is answered so.
abbrev pub Applies : Machine → BlobName → Reply → Machine → Type 0
Applies machine (Snapshot version) reply next = LoadStep machine version reply next
Applies machine (Delta from to) reply next = StepStep machine (Delta from to) to reply next
Applies machine (Reverse from to) reply next = StepStep machine (Reverse from to) to reply next
Applies machine Announced reply next = ⊥

-- The blobs move the machine one after the other, up to the first that is refused: so many are applied, and why the next one was refused, if one was.
abbrev pub Goes : Machine → List BlobName → ℕ → Option Refusal → Machine → Type 0
Goes machine [] applied refused next = (applied ≡ 0) × (refused ≡ None) × (next ≡ machine)
Goes machine (name ∷ names) applied refused next =
    ((refusal : Refusal) × Applies machine name (Refused refusal) next × (applied ≡ 0) × (refused ≡ Some refusal))
    ⊎ ((answer : Reply) × (between : Machine) × (behind : ℕ) × Applies machine name answer between × (is_refusal answer ≡ false) × (applied ≡ 1 + behind) × Goes between names behind refused next)

-- What `goto` answers: how many of how many blobs were applied, why the next one was refused, if one was, and the consumer's tag then, if it has one.
abbrev pub GotoStep : Machine → ℕ → Reply → Machine → Type 0
GotoStep machine wanted (Goto progress) next =
    (plan : List BlobName) × IsPlanFor machine wanted plan × (progress.of ≡ length plan) × Goes machine plan progress.applied progress.refused next
    × (progress.tag ≡ option_map (λ now. now.tag) next.consumer)
GotoStep machine wanted (Refused refusal) next = PlanRefusal machine wanted refusal × (next ≡ machine)
GotoStep machine wanted _ next = ⊥

abbrev pub goto_form : OrderForm ℕ
goto_form = moving (λ machine wanted reply next. GotoStep machine wanted reply next)
