-- A check of a walker is one of the machine: its calls are those of the orders `load` and `step`.
use Rattle.std.proofs.Common.{◌≡◌, ℕ, List, [], ◌∷◌, Option, Some, None, Result, Ok, Err, inl, inr, subst}
use Rattle.std.specs.Prelude.{IfOk, IfSome, length}
use Rattle.hol_io.specs.declared.name.BlobName.{BlobName}
use Rattle.hol_io.specs.declared.name.BlobName.TheVariants.{Snapshot}
use Rattle.hol_io.specs.Name.{step_name}
use Rattle.hol_io.specs.Store.{Store, told}
use Rattle.blob_frame.specs.declared.fault.BlobFault.{BlobFault}
use Rattle.blob_frame.specs.declared.fault.BlobFault.TheVariants as blob_fault
use Rattle.hol_varint.specs.Yields.{Yields}
use Rattle.chain_check.specs.Walk.{Arrives, Both, Calls, Comes, Differs, Goes, IsFree, Passes, PassesBy, Refuses, Stops, TellsCheck, Visits, calls_by, compared_in, name_of_call}
use Rattle.chain_check.specs.declared.checking.CheckFault.{CheckFault}
use Rattle.chain_check.specs.declared.checking.CheckFault.TheVariants as check_fault
use Rattle.read_engine.specs.Position.{Position}
use Rattle.read_engine.specs.Walking.{WalksLoad, WalksStep, schemas_at, table_at, tag_at}
use Rattle.schema_model.specs.declared.schema.name.Name.{Name}
use Rattle.hol_answers.specs.declared.refusal.Difference.{Difference}
use Rattle.hol_answers.specs.declared.refusal.Refusal.{Refusal}
use Rattle.hol_answers.specs.declared.refusal.Refusal.TheVariants as refusal
use Rattle.hol_answers.specs.declared.reply.Reply.TheVariants as reply
use Rattle.hollow_machine.specs.CheckOrder.{CheckReply, WalkLoads, WalkSteps, both_new, walk_calls}
use Rattle.hollow_machine.proofs.Refusals.{delta_refused, snapshot_refused}
use Rattle.hollow_machine.specs.Blobs.{TellsOf}

-- the calls of a walker
abbrev pub walker_calls : Calls (Option Position) BlobFault
walker_calls = calls_by WalksLoad WalksStep tag_at schemas_at table_at

module _ (store : Store) where
  abbrev held : Option Store
  held = Some store

  -- ---- calls that are answered

  loads : (version : ℕ) (before now : Option Position) → WalksLoad held version before now (Ok tt) → WalkLoads held version before now (Ok tt)
  loads version before now walks = let (blob, position, there, stands, from) = walks.tells in (position, (blob, there, from), stands)

  steps : (from to : ℕ) (before now : Option Position) → WalksStep held from to before now (Ok tt) → WalkSteps held from to before now (Ok tt)
  steps from to None now walks = absurd walks.steps
  steps from to (Some at) now walks = let (blob, position, there, stands, by) = walks.steps.tells in (blob, position, there, by, stands)

  goes : (from : Option ℕ) (to : ℕ) (before now : Option Position) → Goes walker_calls held from to before now (Ok tt) → Goes walk_calls held from to before now (Ok tt)
  goes None to before now walks = loads to before now walks
  goes (Some from) to before now walks = steps from to before now walks

  arrives : (from : Option ℕ) (to : ℕ) (before now : Both (Option Position)) → Arrives walker_calls held from to before now → Arrives walk_calls held from to before now
  arrives from to before now is = record { goes = goes from to before.walker now.walker is.goes; has = is.has; loads = loads to before.fresh now.fresh is.loads }

  passes_by : (from : Option ℕ) (to : ℕ) (before now : Both (Option Position)) → PassesBy walker_calls held from to before now → PassesBy walk_calls held from to before now
  passes_by from to before now is = record { goes = goes from to before.walker now.walker is.goes; lacks = is.lacks; still = is.still }

  visits : (from : Option ℕ) (to : ℕ) (before now : Both (Option Position)) → Visits walker_calls held from to before now → Visits walk_calls held from to before now
  visits from to before now (inl (is, alike)) = inl (arrives from to before now is, alike)
  visits from to before now (inr is) = inr (passes_by from to before now is)

  passes : (from : Option ℕ) (versions : List ℕ) (before now : Both (Option Position)) → Passes walker_calls held from versions before now → Passes walk_calls held from versions before now
  passes from [] before now same = same
  passes from (to ∷ more) before now (there, is, others) = (there, visits from to before there is, passes (Some to) more there now others)

  comes : (versions : List ℕ) (start : Both (Option Position)) (from : Option ℕ) (to : ℕ) (now : Both (Option Position)) → Comes walker_calls held versions start from to now
      → Comes walk_calls held versions start from to now
  comes versions start from to now is = record {
    passed = is.passed;
    more = is.more;
    versions_are = is.versions_are;
    from_is = is.from_is;
    passes = passes None is.passed start now is.passes;
  }

  differs : (versions : List ℕ) (start : Both (Option Position)) (version : ℕ) (type_name : Option Name) (ordinal : Option ℕ) (now : Both (Option Position))
      → Differs walker_calls held versions start version type_name ordinal now → Differs walk_calls held versions start version type_name ordinal now
  differs versions start version type_name ordinal now is = record {
    from = is.from;
    before = is.before;
    comes = comes versions start is.from version is.before is.comes;
    arrives = arrives is.from version is.before now is.arrives;
    place = is.place;
  }

  -- ---- calls that are refused

  load_refused : (version : ℕ) (before now : Option Position) (fault : BlobFault) (why : Refusal) → WalksLoad held version before now (Err fault)
      → TellsOf (Snapshot version) fault why → WalkLoads held version before now (Err why)
  load_refused version before now fault why walks is = (snapshot_refused (Snapshot version) (told held (Snapshot version)) fault why is walks.tells, walks.refused)

  step_refused : (from to : ℕ) (before now : Option Position) (fault : BlobFault) (why : Refusal) → WalksStep held from to before now (Err fault)
      → TellsOf (step_name from to) fault why → WalkSteps held from to before now (Err why)
  step_refused from to None now fault why walks is = absurd walks.steps
  step_refused from to (Some at) now fault why walks is =
      let name = step_name from to in (delta_refused name (told held name) at fault why is walks.steps.tells, walks.refused)

  call_refused : (from : Option ℕ) (to : ℕ) (before now : Option Position) (fault : BlobFault) (why : Refusal) → Goes walker_calls held from to before now (Err fault)
      → TellsOf (name_of_call from to) fault why → Goes walk_calls held from to before now (Err why)
  call_refused None to before now fault why walks is = load_refused to before now fault why walks is
  call_refused (Some from) to before now fault why walks is = step_refused from to before now fault why walks is

  refuses : (from : Option ℕ) (to : ℕ) (before now : Both (Option Position)) (name : BlobName) (fault : BlobFault) (why : Refusal) → Refuses walker_calls held from to before name fault now
      → TellsOf name fault why → Refuses walk_calls held from to before name why now
  refuses from to before now name fault why (inl (named, walks, same)) is =
      inl (named, call_refused from to before.walker now.walker fault why walks (subst (λ (n : BlobName). TellsOf n fault why) named is), same)
  refuses from to before now name fault why (inr (named, walks, has, fresh)) is =
      inr (named, goes from to before.walker now.walker walks, has, load_refused to before.fresh now.fresh fault why fresh (subst (λ (n : BlobName). TellsOf n fault why) named is))

  stops : (versions : List ℕ) (start now : Both (Option Position)) (name : BlobName) (fault : BlobFault) (why : Refusal) → Stops walker_calls held versions start name fault now
      → TellsOf name fault why → Stops walk_calls held versions start name why now
  stops versions start now name fault why is taken = record {
    from = is.from;
    to = is.to;
    before = is.before;
    comes = comes versions start is.from is.to is.before is.comes;
    refuses = refuses is.from is.to is.before now name fault why is.refuses taken;
  }

-- ---- the answers

-- what is told of a walk along versions by two walkers that have no state at its begin
abbrev Walked : Option Store → List ℕ → Result ℕ (CheckFault BlobFault) → Type 0
Walked held versions result = (now : Both (Option Position)) × TellsCheck walker_calls held versions both_new now result

pub walked : (held : Option Store) (versions : List ℕ) (walker fresh : Option Position) (now : Both (Option Position)) (result : Result ℕ (CheckFault BlobFault)) → walker ≡ None → fresh ≡ None
    → TellsCheck walker_calls held versions (record { walker = walker; fresh = fresh }) now result → Walked held versions result
walked held versions walker fresh now result none bare tells = (
  now,
  subst (λ (f : Option Position). TellsCheck walker_calls held versions (record { walker = None; fresh = f }) now result) bare
      (subst (λ (w : Option Position). TellsCheck walker_calls held versions (record { walker = w; fresh = fresh }) now result) none tells),
)

-- a walk that passes over versions compares as many as have their snapshots
counted : (store : Store) (versions : List ℕ) (start now : Both (Option Position)) (compared : ℕ)
    → Yields (IsFree {E = BlobFault}) (Ok compared) (Ok (compared_in store versions)) ((end : Both (Option Position)) × Passes walker_calls (Some store) None versions start end)
    → Passes walker_calls (Some store) None versions start now → compared ≡ compared_in store versions
counted store versions start now compared yields passes =
    elim (yields.1 (now, passes)) [
      | inl same ↦ cc
      | inr failed ↦ absurd failed
    ]

pub counts : (held : Option Store) (versions : List ℕ) (start now : Both (Option Position)) (result : Result ℕ (CheckFault BlobFault))
    → IfSome held (λ store. Yields (IsFree {E = BlobFault}) result (Ok (compared_in store versions)) ((end : Both (Option Position)) × Passes walker_calls (Some store) None versions start end))
    → TellsCheck walker_calls held versions start now result → IfOk result (λ compared. IfSome held (λ store. compared ≡ compared_in store versions))
counts held versions start now (Err why) yields tells = tt
counts None versions start now (Ok compared) yields tells = tt
counts (Some store) versions start now (Ok compared) yields tells = counted store versions start now compared yields tells

-- each state that is compared is that of its snapshot
pub checked : (held : Option Store) (versions asked : List ℕ) (compared states : ℕ) → asked ≡ versions → states ≡ length versions → IfSome held (λ store. compared ≡ compared_in store asked)
    → Walked held asked (Ok compared) → IfSome held (λ store. CheckReply store versions (reply.Check compared states))
checked None versions asked compared states same count many told = tt
checked (Some store) versions asked compared states same count many (now, tells) =
    let along = subst (λ (vs : List ℕ). TellsCheck walker_calls (Some store) vs both_new now (Ok compared)) same tells in
    (count, subst (λ (vs : List ℕ). compared ≡ compared_in store vs) same many, (now, passes store None versions both_new now along))

-- what ends a walk along the versions that are asked
ended : (held : Option Store) (versions asked : List ℕ) (now : Both (Option Position)) (found why : CheckFault BlobFault) → asked ≡ versions → found ≡ why
    → TellsCheck walker_calls held asked both_new now (Err found) → TellsCheck walker_calls held versions both_new now (Err why)
ended held versions asked now found why same is tells =
    subst (λ (f : CheckFault BlobFault). TellsCheck walker_calls held versions both_new now (Err f)) is (subst (λ (vs : List ℕ). TellsCheck walker_calls held vs both_new now (Err found)) same tells)

-- a state differs from that of its snapshot
pub different : (held : Option Store) (versions asked : List ℕ) (found : CheckFault BlobFault) (version : ℕ) (type_name : Option Name) (ordinal : Option ℕ)
    → asked ≡ versions → found ≡ check_fault.Mismatch version type_name ordinal → Walked held asked (Err found)
    → IfSome held (λ store. CheckReply store versions (reply.Refused (refusal.Mismatch (record { version = version; type_name = type_name; ordinal = ordinal }))))
different None versions asked found version type_name ordinal same is told = tt
different (Some store) versions asked found version type_name ordinal same is (now, tells) =
    (now, differs store versions both_new version type_name ordinal now (ended (Some store) versions asked now found (check_fault.Mismatch version type_name ordinal) same is tells))

-- no fault of a blob is that two states differ
no_mismatch : (name : BlobName) (found : BlobFault) (difference : Difference) → TellsOf name found (refusal.Mismatch difference) → ⊥
no_mismatch name (blob_fault.NoBlob other) difference is = cc
no_mismatch name (blob_fault.Large limit) difference is = cc
no_mismatch name (blob_fault.Bad at reason) difference is = cc
no_mismatch name (blob_fault.BadRow at reason of ordinal) difference is = cc
no_mismatch name (blob_fault.OtherOrigin origin current) difference is = cc
no_mismatch name (blob_fault.OtherModel of) difference is = cc
no_mismatch name blob_fault.Store difference is = cc
no_mismatch name blob_fault.Memory difference is = cc

-- the refusal of a stopped walk is one of the check: it is no difference
stopped_reply : (store : Store) (versions : List ℕ) (now : Both (Option Position)) (name : BlobName) (why : Refusal) → Stops walk_calls (Some store) versions both_new name why now
    → CheckReply store versions (reply.Refused why)
stopped_reply store versions now name (refusal.Mismatch difference) is = absurd (no_stop is.from is.to is.before now is.refuses)
  where
    no_load : (version : ℕ) (before after : Option Position) → ¬ WalkLoads (Some store) version before after (Err (refusal.Mismatch difference))
    no_load version before after ((found, fails, is), same) = no_mismatch (Snapshot version) found difference is

    no_step : (from to : ℕ) (before after : Option Position) → ¬ WalkSteps (Some store) from to before after (Err (refusal.Mismatch difference))
    no_step from to None after (is, same) = cc
    no_step from to (Some at) after ((found, fails, is), same) = no_mismatch (step_name from to) found difference is

    no_stop : (from : Option ℕ) (to : ℕ) (before after : Both (Option Position)) → ¬ Refuses walk_calls (Some store) from to before name (refusal.Mismatch difference) after
    no_stop None to before after (inl (named, walks, same)) = no_load to before.walker after.walker walks
    no_stop (Some from) to before after (inl (named, walks, same)) = no_step from to before.walker after.walker walks
    no_stop from to before after (inr (named, walks, has, fresh)) = no_load to before.fresh after.fresh fresh
stopped_reply store versions now name _ is = (name, now, is)

-- a blob is refused on the way
pub refused : (held : Option Store) (versions asked : List ℕ) (found : CheckFault BlobFault) (name : BlobName) (why : BlobFault) (answer : Refusal)
    → asked ≡ versions → found ≡ check_fault.Walk name why → TellsOf name why answer → Walked held asked (Err found) → IfSome held (λ store. CheckReply store versions (reply.Refused answer))
refused None versions asked found name why answer same is refusal_is told = tt
refused (Some store) versions asked found name why answer same is refusal_is (now, tells) =
    let stopped = ended (Some store) versions asked now found (check_fault.Walk name why) same is tells in
    stopped_reply store versions now name answer (stops store versions both_new now name why answer stopped refusal_is)
