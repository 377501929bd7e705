-- The order `check`: what it answers of a store, whose machine stays as it was.
use Rattle.std.specs.Prelude.{◌≡◌, ℕ, List, Option, Some, None, Result, Ok, Err, IfSome, IsSomeAnd, length}
use Rattle.hol_io.specs.declared.name.BlobName.{BlobName}
use Rattle.hol_io.specs.declared.name.BlobName.TheVariants.{Snapshot}
use Rattle.hol_io.specs.Name.{step_name}
use Rattle.hol_io.specs.Store.{Store, told}
use Rattle.chain_check.specs.Compare.{State}
use Rattle.chain_check.specs.Walk.{Both, Calls, Differs, Passes, Stops, compared_in, state_by}
use Rattle.read_engine.specs.Position.{Position}
use Rattle.read_engine.specs.Taking.{StepsBy}
use Rattle.read_engine.specs.Walking.{schemas_at, table_at, tag_at}
use Rattle.hol_answers.specs.declared.refusal.Refusal.{Refusal}
use Rattle.hol_answers.specs.declared.refusal.Refusal.TheVariants.{Mismatch}
use Rattle.hol_answers.specs.declared.reply.Reply.{Reply}
use Rattle.hol_answers.specs.declared.reply.Reply.TheVariants.{Check, Refused}
use Rattle.hollow_machine.specs.Blobs.{SnapshotRefusal}
use Rattle.hollow_machine.specs.Forms.{OrderForm, moving}
use Rattle.hollow_machine.specs.RestoreOrder.{IsStored}
use Rattle.hollow_machine.specs.StepOrder.{StepRefusal}

-- What is compared of a consumer, which has no types before its first load.
abbrev pub state_at : Option Position → State
state_at consumer = state_by tag_at schemas_at table_at consumer

-- What a load and a step of a consumer are answered, as by the orders `load` and `step`.
abbrev pub WalkLoads : Option Store → ℕ → Option Position → Option Position → Result (Unit {0}) Refusal → Type 0
WalkLoads held version before now (Ok done) = IfSome held (λ store. (position : Position) × IsStored store version position × (now ≡ Some position))
WalkLoads held version before now (Err refusal) = SnapshotRefusal (Snapshot version) (told held (Snapshot version)) refusal × (now ≡ before)

abbrev pub WalkSteps : Option Store → ℕ → ℕ → Option Position → Option Position → Result (Unit {0}) Refusal → Type 0
WalkSteps held from to before now (Ok done) =
    IsSomeAnd before (λ at. (blob : List ℕ) × (position : Position) × (told held (step_name from to) ≡ Some blob) × StepsBy blob at position × (now ≡ Some position))
WalkSteps held from to before now (Err refusal) = StepRefusal (step_name from to) (told held (step_name from to)) before refusal × (now ≡ before)

abbrev pub walk_calls : Calls (Option Position) Refusal
walk_calls = record { loads = WalkLoads; steps = WalkSteps; state = state_by tag_at schemas_at table_at }

-- two consumers without a state
abbrev pub both_new : Both (Option Position)
both_new = record { walker = None; fresh = None }

-- What is answered of a walk over these versions: that at each of them whose snapshot the store has the state is that of the snapshot loaded afresh, how many
-- these are, and how many versions there are; or the first version at which the two differ, and where; or why a blob is refused on the way.
abbrev pub CheckReply : Store → List ℕ → Reply → Type 0
CheckReply store versions (Check compared states) =
    (states ≡ length versions) × (compared ≡ compared_in store versions)
    × ((now : Both (Option Position)) × Passes walk_calls (Some store) None versions both_new now)
CheckReply store versions (Refused (Mismatch difference)) =
    (now : Both (Option Position)) × Differs walk_calls (Some store) versions both_new difference.version difference.type_name difference.ordinal now
CheckReply store versions (Refused refusal) =
    (name : BlobName) × (now : Both (Option Position)) × Stops walk_calls (Some store) versions both_new name refusal now
CheckReply store versions _ = ⊥

abbrev pub check_form : OrderForm (List ℕ)
check_form = moving (λ machine versions reply next. CheckReply machine.store versions reply × (next ≡ machine))
