-- The order `step`: what it answers, and the machine behind it.
use Rattle.std.specs.Prelude.{◌≡◌, ℕ, List, Option, Some, None, IsSomeAnd}
use Rattle.hol_io.specs.declared.name.BlobName.{BlobName}
use Rattle.hol_io.specs.Name.{step_name}
use Rattle.hol_io.specs.Store.{told}
use Rattle.blob_frame.specs.declared.fault.BlobFault.{BlobFault}
use Rattle.read_engine.specs.Judged.{RefusesStep}
use Rattle.read_engine.specs.Position.{Position}
use Rattle.read_engine.specs.Taking.{StepsBy}
use Rattle.hol_answers.specs.declared.refusal.Refusal.{Refusal}
use Rattle.hol_answers.specs.declared.refusal.Refusal.TheVariants.{NoState}
use Rattle.hol_answers.specs.declared.reply.Reply.{Reply}
use Rattle.hol_answers.specs.declared.reply.Reply.TheVariants.{Refused, Step}
use Rattle.hollow_machine.specs.Blobs.{TellsOf}
use Rattle.hollow_machine.specs.State.{Machine, stepped_to}
use Rattle.hollow_machine.specs.Forms.{OrderForm, moving}

-- Why what a name holds does not move a consumer: its fault.
abbrev pub DeltaRefusal : BlobName → Option (List ℕ) → Position → Refusal → Type 0
DeltaRefusal name content now refusal = (found : BlobFault) × RefusesStep name content now found × TellsOf name found refusal

-- Why the order is refused: the consumer has no state, or the fault of the blob.
abbrev pub StepRefusal : BlobName → Option (List ℕ) → Option Position → Refusal → Type 0
StepRefusal name content None refusal = refusal ≡ NoState
StepRefusal name content (Some now) refusal = DeltaRefusal name content now refusal

-- The consumer moves along the blob, to the tag of its destination and to this version, and the state from before is kept with the older ones; or the order
-- is refused and all stays.
abbrev pub StepStep : Machine → BlobName → ℕ → Reply → Machine → Type 0
StepStep machine name version (Step tag) next =
    IsSomeAnd machine.consumer (λ now. (blob : List ℕ) × (to : Position) × (told (Some machine.store) name ≡ Some blob) × StepsBy blob now to × (tag ≡ to.tag)
    × (next ≡ stepped_to machine version to))
StepStep machine name version (Refused refusal) next = StepRefusal name (told (Some machine.store) name) machine.consumer refusal × (next ≡ machine)
StepStep machine name version _ next = ⊥

abbrev pub step_form : OrderForm (ℕ × ℕ)
step_form = moving (λ machine asked reply next. StepStep machine (step_name asked.0 asked.1) asked.1 reply next)
