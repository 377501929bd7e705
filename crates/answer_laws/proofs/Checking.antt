-- The order `check` has an answer: the walk goes on up to the first version at which a call is refused, or the states differ where the store has its snapshot.
use Rattle.std.proofs.Common.{◌≡◌, ◌∙◌, ℕ, List, [], ◌∷◌, ◌++◌, length, Bool, true, false, Option, None, Some, Ok, Err, IfSome, is_some, append_assoc, append-nil, inl, inr, refl, sym, subst}
use Rattle.std.specs.FinMap.{get}
use Rattle.std.specs.List.{last_or}
use Rattle.std.proofs.lemmas.List.{length-map}
use Rattle.hol_io.specs.declared.name.BlobName.{BlobName}
use Rattle.hol_io.specs.declared.name.BlobName.TheVariants.{Snapshot}
use Rattle.hol_io.specs.Name.{step_name}
use Rattle.hol_io.specs.Store.{Store, told}
use Rattle.type_state.specs.State.{Half}
use Rattle.blob_frame.specs.declared.fault.BlobFault.{BlobFault}
use Rattle.blob_frame.specs.declared.fault.BlobFault.TheVariants as fault
use Rattle.chain_check.specs.Walk.{Arrives, Both, Comes, Goes, HasSnapshot, Passes, Stops, Visits, compared_in, name_of_call}
use Rattle.read_engine.specs.Position.{Position, rows_now}
use Rattle.read_engine.specs.Taking.{StepsBy}
use Rattle.step_laws.specs.Typed.{HasTypes}
use Rattle.step_laws.proofs.Typing.{load_typed}
use Rattle.hol_answers.specs.declared.refusal.Difference.{Difference}
use Rattle.hol_answers.specs.declared.refusal.Refusal.{Refusal}
use Rattle.hol_answers.specs.declared.refusal.Refusal.TheVariants as refusal
use Rattle.hol_answers.specs.declared.reply.Reply.{Reply}
use Rattle.hol_answers.specs.declared.reply.Reply.TheVariants as reply
use Rattle.hollow_machine.specs.Blobs.{SnapshotRefusal, TellsOf}
use Rattle.hollow_machine.specs.CheckOrder.{CheckReply, WalkLoads, WalkSteps, both_new, check_form, state_at, walk_calls}
use Rattle.hollow_machine.specs.State.{Machine}
use Rattle.hollow_machine.specs.StepOrder.{StepRefusal}
use Rattle.answer_laws.specs.Answered.{IsAnsweredBy, IsSound}
use Rattle.answer_laws.proofs.Blobs.{loads_or_refused, moved, steps_or_refused}
use Rattle.answer_laws.proofs.Compared.{same_or_differ}
use Rattle.answer_laws.proofs.Going.{stepped_typed}

-- ---- refusals

-- no fault of a blob is a difference
no_mismatch : (name : BlobName) (found : BlobFault) (difference : Difference) → TellsOf name found (refusal.Mismatch difference) → ⊥
no_mismatch name (fault.NoBlob other) difference is = cc
no_mismatch name (fault.Large limit) difference is = cc
no_mismatch name (fault.Bad at reason) difference is = cc
no_mismatch name (fault.BadRow at reason of ordinal) difference is = cc
no_mismatch name (fault.OtherOrigin origin current) difference is = cc
no_mismatch name (fault.OtherModel of) difference is = cc
no_mismatch name fault.Store difference is = cc
no_mismatch name fault.Memory difference is = cc

-- The refusal is no difference.
abbrev IsPlain : Refusal → Type 0
IsPlain why = (difference : Difference) → why ≡ refusal.Mismatch difference → ⊥

load_plain : (name : BlobName) (content : Option (List ℕ)) (why : Refusal) → SnapshotRefusal name content why → IsPlain why
load_plain name content why (found, refuses, tells) difference is = no_mismatch name found difference (subst (TellsOf name found) is tells)

step_plain : (name : BlobName) (content : Option (List ℕ)) (consumer : Option Position) (why : Refusal) → StepRefusal name content consumer why → IsPlain why
step_plain name content None why none difference is = let clash : refusal.NoState ≡ refusal.Mismatch difference = sym none ∙ is in cc
step_plain name content (Some now) why (found, refuses, tells) difference is = no_mismatch name found difference (subst (TellsOf name found) is tells)

-- ---- one version further

passes_more : (held : Option Store) (from : Option ℕ) (versions : List ℕ) (to : ℕ) (start before now : Both (Option Position)) → Passes walk_calls held from versions start before
    → Visits walk_calls held (last_or from versions) to before now → Passes walk_calls held from (versions ++ to ∷ []) start now
passes_more held from [] to start before now same visits = (now, subst (λ (b : Both (Option Position)). Visits walk_calls held from to b now) same visits, refl)
passes_more held from (v ∷ versions) to start before now passes visits = (passes.0, passes.1, passes_more held (Some v) versions to passes.0 before now passes.2 visits)

-- a state has a table for its model
long_table : (position : Position) → HasTypes position → length (rows_now position) ≡ length position.schemas
long_table position typed = length-map position.halves (λ (h : Half). h.rows) ∙ typed.types

module _ (machine : Machine) (sound : IsSound machine) where
  abbrev held : Option Store
  held = Some machine.store

  loading : (to : ℕ) (before : Option Position) → ((there : Position) → HasTypes there → WalkLoads held to before (Some there) (Ok tt) → ⊥) → ((why : Refusal) → IsPlain why → WalkLoads held to before before (Err why) → ⊥) → ⊥
  loading to before loads stops =
      let content = told held (Snapshot to) in
      loads_or_refused (Snapshot to) content (sound.bytes (Snapshot to))
      (λ blob position there takes. loads position (load_typed blob position takes) (position, (blob, there, takes), refl))
      (λ why tells. stops why (load_plain (Snapshot to) content why tells) (tells, refl))

  stepping : (from to : ℕ) (walker : Option Position) → IfSome walker HasTypes → ((there : Position) → HasTypes there → WalkSteps held from to walker (Some there) (Ok tt) → ⊥)
      → ((why : Refusal) → IsPlain why → WalkSteps held from to walker walker (Err why) → ⊥) → ⊥
  stepping from to walker typed goes stops =
      let name = step_name from to in
      let content = told held name in
      steps_or_refused name content (sound.bytes name) walker typed
      (λ blob position there steps. goes position (stepped_typed walker typed blob position steps)
      (moved walker (λ at. StepsBy blob at position) (λ at. (found : List ℕ) × (behind : Position) × (content ≡ Some found) × StepsBy found at behind × (Some position ≡ Some behind)) (λ at by. (blob, position, there, by, refl)) steps))
      (λ why tells. stops why (step_plain name content walker why tells) (tells, refl))

  -- what leads the walk to a version does, or is refused
  going : (from : Option ℕ) (to : ℕ) (walker : Option Position) → IfSome walker HasTypes → ((there : Position) → HasTypes there → Goes walk_calls held from to walker (Some there) (Ok tt) → ⊥)
      → ((why : Refusal) → IsPlain why → Goes walk_calls held from to walker walker (Err why) → ⊥) → ⊥
  going None to walker typed goes stops = loading to walker goes stops
  going (Some from) to walker typed goes stops = stepping from to walker typed goes stops

  module _ (versions : List ℕ) (none : (answer : Reply) → CheckReply machine.store versions answer → ⊥) where
    stopped : (why : Refusal) → IsPlain why → (name : BlobName) (now : Both (Option Position)) → Stops walk_calls held versions both_new name why now → CheckReply machine.store versions (reply.Refused why)
    stopped (refusal.Mismatch difference) plain name now stops = absurd (plain difference refl)
    stopped _ plain name now stops = (name, now, stops)

    -- The walk comes before a version.
    abbrev ComesTo : Option ℕ → ℕ → Both (Option Position) → Type 0
    ComesTo from to now = Comes walk_calls held versions both_new from to now

    -- the walk is led to a version whose snapshot is there
    arrives_there : (from : Option ℕ) (to : ℕ) (now : Both (Option Position)) → ComesTo from to now → HasSnapshot held to true → (there : Position) → HasTypes there
        → Goes walk_calls held from to now.walker (Some there) (Ok tt) → ((behind : Both (Option Position)) → behind.walker ≡ Some there → Visits walk_calls held from to now behind → ⊥) → ⊥
    arrives_there from to now comes has there typed goes visits = loading to now.fresh
        (λ other other_typed loads.
        let arrived : Both (Option Position) = record { walker = Some there; fresh = Some other } in
        let arrives : Arrives walk_calls held from to now arrived = record { goes = goes; has = has; loads = loads } in
        same_or_differ (state_at (Some there)) (state_at (Some other)) (long_table there typed)
        (λ same. visits arrived refl (inl (arrives, same)))
        (λ place differs. none (reply.Refused (refusal.Mismatch (record { version = to; type_name = place.type_name; ordinal = place.ordinal })))
        (arrived, record { from = from; before = now; comes = comes; arrives = arrives; place = differs })))
        (λ why plain refused.
        let behind : Both (Option Position) = record { walker = Some there; fresh = now.fresh } in
        none (reply.Refused why) (stopped why plain (Snapshot to) behind (record { from = from; to = to; before = now; comes = comes; refuses = inr (refl, goes, has, refused) })))

    -- the walk is led to a version, whether its snapshot is there or not
    visits_there : (from : Option ℕ) (to : ℕ) (now : Both (Option Position)) → ComesTo from to now → (has : Bool) → HasSnapshot held to has → (there : Position) → HasTypes there
        → Goes walk_calls held from to now.walker (Some there) (Ok tt) → ((behind : Both (Option Position)) → behind.walker ≡ Some there → Visits walk_calls held from to now behind → ⊥) → ⊥
    visits_there from to now comes true has there typed goes visits = arrives_there from to now comes has there typed goes visits
    visits_there from to now comes false lacks there typed goes visits =
        visits (record { walker = Some there; fresh = now.fresh }) refl (inr (record { goes = goes; lacks = lacks; still = refl }))

    -- the walk goes on
    goes_on : (rest passed : List ℕ) (now : Both (Option Position)) → versions ≡ passed ++ rest → Passes walk_calls held None passed both_new now → IfSome now.walker HasTypes → ⊥
    goes_on [] passed now are passes typed =
        none (reply.Check (compared_in machine.store versions) (length versions))
        (refl, refl, (now, subst (λ (vs : List ℕ). Passes walk_calls held None vs both_new now) (sym (are ∙ append-nil passed)) passes))
    goes_on (to ∷ more) passed now are passes typed =
        let from = last_or None passed in
        let comes : ComesTo from to now = record { passed = passed; more = more; versions_are = are; from_is = refl; passes = passes } in
        going from to now.walker typed
        (λ there there_typed goes. visits_there from to now comes (is_some (get machine.store (Snapshot to))) refl there there_typed goes
        (λ behind is visits. goes_on more (passed ++ to ∷ []) behind (are ∙ sym (append_assoc passed (to ∷ []) more)) (passes_more held None passed to both_new now behind passes visits)
        (subst (λ (c : Option Position). IfSome c HasTypes) (sym is) there_typed)))
        (λ why plain refused. none (reply.Refused why) (stopped why plain (name_of_call from to) now (record { from = from; to = to; before = now; comes = comes; refuses = inl (refl, refused, refl) })))

-- that a walk over a store of bytes is neither answered nor refused cannot be
pub check_or_not : (machine : Machine) → IsSound machine → (versions : List ℕ) → ((answer : Reply) → CheckReply machine.store versions answer → ⊥) → ⊥
check_or_not machine sound versions none = goes_on machine sound versions none versions [] both_new refl refl tt

pub check_answered : (machine : Machine) → IsSound machine → (versions : List ℕ) → IsAnsweredBy check_form machine versions
check_answered machine sound versions none = check_or_not machine sound versions (λ answer tells. none answer machine (tells, refl))
