-- The orders `load` and `step` have an answer.
use Rattle.std.proofs.Common.{◌≡◌, ℕ, List, Option, None, Some, IfSome, refl, subst, sym}
use Rattle.std.specs.Prelude.{IsSomeAnd}
use Rattle.hol_io.specs.declared.name.BlobName.{BlobName}
use Rattle.hol_io.specs.declared.name.BlobName.TheVariants.{Snapshot}
use Rattle.hol_io.specs.Name.{step_name}
use Rattle.hol_io.specs.Store.{told}
use Rattle.blob_grammar.specs.Decided.{AreBytes}
use Rattle.blob_frame.specs.declared.fault.BlobFault.{BlobFault}
use Rattle.blob_frame.specs.declared.fault.BlobFault.TheVariants as fault
use Rattle.blob_faults.specs.Deciding.{IsOwn}
use Rattle.snapshot_blob.specs.Judged.{snapshot_of}
use Rattle.read_engine.specs.Judged.{RefusesLoad, RefusesStep, step_of}
use Rattle.read_engine.specs.Position.{Position}
use Rattle.read_engine.specs.Taking.{LoadsFrom, StepsBy}
use Rattle.step_laws.specs.Typed.{HasTypes}
use Rattle.hol_answers.specs.declared.refusal.Refusal.{Refusal}
use Rattle.hol_answers.specs.declared.refusal.Refusal.TheVariants as refusal
use Rattle.hol_answers.specs.declared.reply.Reply.TheVariants as reply
use Rattle.hol_answers.specs.Refusal.{bad_item, other_origin}
use Rattle.hollow_machine.specs.Blobs.{SnapshotRefusal, TellsOf}
use Rattle.hollow_machine.specs.LoadOrder.{load_form}
use Rattle.hollow_machine.specs.State.{Machine, loaded_to, stepped_to}
use Rattle.hollow_machine.specs.StepOrder.{StepRefusal, step_form}
use Rattle.step_laws.proofs.SettledSteps.{load_or_fault, step_or_fault}
use Rattle.answer_laws.specs.Answered.{IsAnsweredBy, IsSound}

-- ---- what a refusal tells

-- a fault of a blob has its refusal
own_told : (name : BlobName) (found : BlobFault) → IsOwn found → (told : Refusal) × TellsOf name found told
own_told name (fault.NoBlob other) own = (refusal.NoBlob name, refl)
own_told name (fault.Large limit) own = (refusal.TooLarge limit, refl)
own_told name (fault.Bad at reason) own = (bad_item name at reason, refl)
own_told name (fault.BadRow at reason type_name ordinal) own =
    (refusal.BadBlob (record { blob = name; at = at; reason = reason; row = Some (record { type_name = type_name; ordinal = ordinal }) }), refl)
own_told name (fault.OtherOrigin found current) own = (other_origin name found current, refl)
own_told name (fault.OtherModel type_name) own = (refusal.OtherModel name type_name, refl)
own_told name fault.Store own = absurd own
own_told name fault.Memory own = absurd own

load_own : (name : BlobName) (content : Option (List ℕ)) (found : BlobFault) → RefusesLoad name content found → IsOwn found
load_own name None found refuses = subst IsOwn (sym refuses) tt
load_own name (Some blob) found refuses = (snapshot_of blob).decided.own found refuses

step_own : (name : BlobName) (content : Option (List ℕ)) (from : Position) (found : BlobFault) → RefusesStep name content from found → IsOwn found
step_own name None from found refuses = subst IsOwn (sym refuses) tt
step_own name (Some blob) from found refuses = (step_of blob from).decided.own found refuses

-- ---- what a name holds

-- that it is neither loaded nor refused cannot be
pub loads_or_refused : (name : BlobName) (content : Option (List ℕ)) → IfSome content AreBytes → ((blob : List ℕ) (position : Position) → content ≡ Some blob → LoadsFrom blob position → ⊥)
    → ((told : Refusal) → SnapshotRefusal name content told → ⊥) → ⊥
loads_or_refused name content bytes no_load no_refusal = load_or_fault name content bytes no_load (λ found refuses.
    let told = own_told name found (load_own name content found refuses) in no_refusal told.0 (found, refuses, told.1))

-- nor that it neither moves a consumer nor is refused
pub steps_or_refused : (name : BlobName) (content : Option (List ℕ)) → IfSome content AreBytes → (consumer : Option Position) → IfSome consumer HasTypes
    → ((blob : List ℕ) (to : Position) → content ≡ Some blob → IsSomeAnd consumer (λ now. StepsBy blob now to) → ⊥) → ((told : Refusal) → StepRefusal name content consumer told → ⊥) → ⊥
steps_or_refused name content bytes None position no_step no_refusal = no_refusal refusal.NoState refl
steps_or_refused name content bytes (Some now) position no_step no_refusal = step_or_fault name content now position bytes no_step (λ found refuses.
    let told = own_told name found (step_own name content now found refuses) in no_refusal told.0 (found, refuses, told.1))

-- ---- the orders

pub load_answered : (machine : Machine) → IsSound machine → (version : ℕ) → IsAnsweredBy load_form machine version
load_answered machine sound version none =
    loads_or_refused (Snapshot version) (told (Some machine.store) (Snapshot version)) (sound.bytes (Snapshot version))
    (λ blob position there loads. none (reply.Load position.tag) (loaded_to machine version position) (blob, position, there, loads, refl, refl))
    (λ refused tells. none (reply.Refused refused) machine (tells, refl))

-- where it stands beside what holds of it
pub moved : (consumer : Option Position) (P Q : Position → Type 0) → ((now : Position) → P now → Q now) → IsSomeAnd consumer P → IsSomeAnd consumer Q
moved None P Q gives some = absurd some
moved (Some now) P Q gives some = gives now some

pub step_answered : (machine : Machine) → IsSound machine → (asked : ℕ × ℕ) → IsAnsweredBy step_form machine asked
step_answered machine sound asked none =
    let name = step_name asked.0 asked.1 in
    let content = told (Some machine.store) name in
    steps_or_refused name content (sound.bytes name) machine.consumer sound.consumer
    (λ blob to there steps. none (reply.Step to.tag) (stepped_to machine asked.1 to)
    (moved machine.consumer (λ now. StepsBy blob now to)
    (λ now. (found : List ℕ) × (behind : Position) × (content ≡ Some found) × StepsBy found now behind × (to.tag ≡ behind.tag) × (stepped_to machine asked.1 to ≡ stepped_to machine asked.1 behind))
    (λ now by. (blob, to, there, by, refl, refl)) steps))
    (λ refused tells. none (reply.Refused refused) machine (tells, refl))
