-- The orders that move a consumer over a store that holds a chain: which are taken, and that a step from another state is refused.
use Rattle.std.proofs.Common.{◌≡◌, ◌≢◌, ℕ, ℤ, List, [], Bool, true, false, if◌then◌else◌, inl, inr, Option, Some, refl, sym, ap, subst, ◌∙◌, length}
use Rattle.std.specs.Prelude.{IsSomeAnd, nat_lt}
use Rattle.std.specs.FinMap.{get}
use Rattle.hol_io.specs.declared.name.BlobName.{BlobName}
use Rattle.hol_io.specs.declared.name.BlobName.TheVariants.{Snapshot, Delta, Reverse}
use Rattle.hol_io.specs.Name.{step_name}
use Rattle.schema_model.specs.declared.schema.Schema.{Schema}
use Rattle.type_state.specs.Views.{table_of}
use Rattle.blob_frame.specs.declared.fault.BlobFault.TheVariants as fault
use Rattle.blob_frame.specs.declared.header.Header.{Header}
use Rattle.blob_frame.specs.Header.{HeaderIs, header, HasHeader}
use Rattle.blob_faults.specs.Judge.{◌>>=◌, test}
use Rattle.blob_faults.specs.Reading.{short, standing, starts}
use Rattle.delta_blob.specs.Judged as judged
use Rattle.delta_blob.specs.declared.part.DeltaPart.{DeltaPart}
use Rattle.delta_blob.specs.Patch.{DeltaIs, DeltaItems, TypePatch}
use Rattle.read_engine.specs.Judged.{RefusesLoad, RefusesStep, step_of}
use Rattle.read_engine.specs.Position.{Position}
use Rattle.read_engine.specs.Taking.{LoadsFrom, StepsBy}
use Rattle.read_engine.proofs.TakenOrFault.{loaded_or_fault, stepped_or_fault}
use Rattle.hol_answers.specs.BlobRefusal.{refusal_of_blob}
use Rattle.hol_answers.specs.declared.refusal.Refusal.{Refusal}
use Rattle.hol_answers.specs.Refusal.{other_origin}
use Rattle.hol_answers.specs.declared.reply.Reply.{Reply}
use Rattle.hol_answers.specs.declared.reply.Reply.TheVariants as reply
use Rattle.hollow_machine.proofs.Refusals.{one_step_refusal, some_one}
use Rattle.hollow_machine.specs.Blobs.{SnapshotRefusal}
use Rattle.hollow_machine.specs.LoadOrder.{LoadStep}
use Rattle.hollow_machine.specs.State.{Machine, loaded_to, stepped_to}
use Rattle.hollow_machine.specs.StepOrder.{StepRefusal, StepStep}
use Rattle.written_laws.specs.Chain.{Chain, ChainState, HasVersion}
use Rattle.written_laws.specs.HoldsChain.{HoldsChain, IsStep, IsThere}
use Rattle.written_laws.specs.SeenChain.{IsAgreeing}
use Rattle.chain_laws.specs.Consumers.{Agrees, Fresh, IsIn, StandsAt, StartsAt}
use Rattle.chain_laws.proofs.BlobTags.{delta_begins}
use Rattle.chain_laws.proofs.ConsumerMoves.{IsBetween, can_take, is_step, loads_state, stands_sees, steps_in}
use Rattle.chain_laws.proofs.StoreNames.{found, found_with}
use Rattle.chain_laws.proofs.TypedConsumers.{IsTyped, typed_in}

-- ---- names and headers

pub step_between : (from to : ℕ) → IsBetween (step_name from to) from to
step_between from to = by_order (nat_lt from to)
  where
    by_order : (rises : Bool) → IsBetween (if rises then Delta from to else Reverse from to) from to
    by_order true = (refl, refl)
    by_order false = (refl, refl)

pub step_named : (from to : ℕ) → IsStep (step_name from to)
step_named from to = is_step (step_name from to) from to (step_between from to)

-- what has a header, and the items of a delta, has one header
pub header_is : (content : Option (List ℕ)) (blob : List ℕ) (head other : Header) (parts : List DeltaPart) → content ≡ Some blob → HasHeader content head → DeltaItems blob other parts → head ≡ other
header_is content blob head other parts at (x, n, at_x, short, begin) items =
    let same : x ≡ blob = some_one content x blob at_x at in
    let (m, also) = delta_begins blob other parts (length blob) items.items in
    (header.decided.one blob 0 head other n m (subst (λ (b : List ℕ). HeaderIs b n head) same begin) also).0

-- a delta starts where its header says
delta_origin : (content : Option (List ℕ)) (schemas : List Schema) (blob : List ℕ) (head : Header) (origin destination : ℤ) (patch : List TypePatch) → content ≡ Some blob → HasHeader content head
    → DeltaIs schemas blob origin destination patch
    → head.origin ≡ origin
delta_origin content schemas blob head origin destination patch at has is = ap (λ (h : Header). h.origin) (header_is content blob head is.head is.parts at has is.items) ∙ is.from_tag

-- ---- steps

-- a step that can be taken is not refused
pub no_refusal : (name : BlobName) (content : Option (List ℕ)) (blob : List ℕ) (now to : Position) → content ≡ Some blob → IsTyped now → StepsBy blob now to
    → (refusal : Refusal) → StepRefusal name content (Some now) refusal → ⊥
no_refusal name content blob now to at typed steps refusal (found, fails, is) =
    stepped_or_fault blob now to found typed.names steps (subst (λ (c : Option (List ℕ)). RefusesStep name c now found) at fails)

module _ (machine : Machine) (chain : Chain) (name : BlobName) (begin version : ℕ) (now : Position) (holds : HoldsChain machine.store chain) (between : IsBetween name begin version) (was : machine.consumer ≡ Some now)
    (is : IsIn chain now) (starts : StartsAt machine.store name now.tag) (agrees : Agrees machine.store name now.schemas) where
  abbrev stored : Option (List ℕ)
  stored = get machine.store name

  typed : IsTyped now
  typed = typed_in chain (Some now) holds.sound is

  can_step : (blob : List ℕ) × (to : Position) × (stored ≡ Some blob) × StepsBy blob now to
  can_step =
      let (blob, at, agreeing) = found_with stored (IsAgreeing now.schemas) agrees in
      let (head, has, starts_at) = starts in
      let origin : agreeing.head.origin ≡ now.tag = ap (λ (h : Header). h.origin) (sym (header_is stored blob head agreeing.head agreeing.parts at has agreeing.items)) ∙ starts_at in
      let (to, steps) = can_take machine.store chain holds name blob now (is_step name begin version between) at is agreeing origin in
      (blob, to, at, steps)

  pub step_taken : (position : Position) × StepStep machine name version (reply.Step position.tag) (stepped_to machine version position)
  step_taken =
      let (blob, to, at, steps) = can_step in (
        to,
        subst (λ (consumer : Option Position). IsSomeAnd consumer (λ here. (b : List ℕ) × (p : Position) × (stored ≡ Some b) × StepsBy b here p × (to.tag ≡ p.tag)
            × (stepped_to machine version to ≡ stepped_to machine version p))) (sym was) (blob, to, at, steps, refl, refl),
      )

  pub step_only : (answer : Reply) (next : Machine) → StepStep machine name version answer next
      → (position : Position) × IsIn chain position × (answer ≡ reply.Step position.tag) × (next ≡ stepped_to machine version position)
  step_only (reply.Step tag) next step =
      let (here, also, (blob, to, at, steps, tag_is, next_is)) = found_with machine.consumer _ step in
      let same : here ≡ now = some_one machine.consumer here now also was in
      let from_now : StepsBy blob now to = subst (λ (p : Position). StepsBy blob p to) same steps in
      (to, steps_in machine.store chain holds name blob now to (is_step name begin version between) at is from_now, ap (λ (t : ℤ). reply.Step t) tag_is, next_is)
  step_only (reply.Refused refusal) next step =
      let (blob, to, at, steps) = can_step in
      absurd (no_refusal name stored blob now to at typed steps refusal (subst (λ (consumer : Option Position). StepRefusal name stored consumer refusal) was step.0))
  step_only _ next step = absurd step

-- ---- a step from another state

-- a blob that starts elsewhere is refused for that
other_fault : (name : BlobName) (content : Option (List ℕ)) (head : Header) (now : Position) → HasHeader content head → head.origin ≢ now.tag
    → RefusesStep name content now (fault.OtherOrigin head.origin now.tag)
unfolding step_of judged.delta_of ◌>>=◌ short standing starts test
other_fault name content head now (blob, n, at, small, begin) apart =
    subst (λ (c : Option (List ℕ)). RefusesStep name c now (fault.OtherOrigin head.origin now.tag)) (sym at) (inl (inr (tt, small, inr ((head, n), begin, inl (apart, refl)))))

module _ (machine : Machine) (name : BlobName) (version : ℕ) (now : Position) (origin : ℤ) (was : machine.consumer ≡ Some now) (starts : StartsAt machine.store name origin) (apart : origin ≢ now.tag) where
  abbrev content : Option (List ℕ)
  content = get machine.store name

  refused_so : StepRefusal name content (Some now) (other_origin name origin now.tag)
  refused_so = (
    fault.OtherOrigin starts.0.origin now.tag,
    other_fault name content starts.0 now starts.1 (λ same. apart (sym starts.2 ∙ same)),
    ap (λ (o : ℤ). refusal_of_blob name (fault.OtherOrigin o now.tag)) starts.2,
  )

  pub other_refused : StepStep machine name version (reply.Refused (other_origin name origin now.tag)) machine
  other_refused = (subst (λ (consumer : Option Position). StepRefusal name content consumer (other_origin name origin now.tag)) (sym was) refused_so, refl)

  pub other_only : (answer : Reply) (next : Machine) → StepStep machine name version answer next → (answer ≡ reply.Refused (other_origin name origin now.tag)) × (next ≡ machine)
  other_only (reply.Step tag) next step =
      let (here, also, (blob, to, at, steps, tag_is, next_is)) = found_with machine.consumer _ step in
      let same : here ≡ now = some_one machine.consumer here now also was in
      absurd (apart (sym starts.2 ∙ delta_origin content here.schemas blob starts.0 here.tag to.tag steps.patch at starts.1 steps.is ∙ ap (λ (p : Position). p.tag) same))
  other_only (reply.Refused refusal) next step = (
    ap (λ (r : Refusal). reply.Refused r)
        (one_step_refusal name content (Some now) refusal (other_origin name origin now.tag) (subst (λ (consumer : Option Position). StepRefusal name content consumer refusal) was step.0) refused_so),
    step.1,
  )
  other_only _ next step = absurd step

-- ---- loads

-- a snapshot that can be loaded is not refused
pub no_load_refusal : (version : ℕ) (held : Option (List ℕ)) (blob : List ℕ) (position : Position) → held ≡ Some blob → LoadsFrom blob position → (refusal : Refusal) → SnapshotRefusal (Snapshot version) held refusal → ⊥
no_load_refusal version held blob position at loads refusal (found, fails, is) =
    loaded_or_fault blob position found loads (subst (λ (c : Option (List ℕ)). RefusesLoad (Snapshot version) c found) at fails)

module _ (machine : Machine) (chain : Chain) (version : ℕ) (state : ChainState) (holds : HoldsChain machine.store chain) (there : HasVersion chain version state) (whole : IsThere machine.store (Snapshot version)) where
  pub can_load : (blob : List ℕ) × (position : Position) × (get machine.store (Snapshot version) ≡ Some blob) × LoadsFrom blob position
  can_load =
      let (blob, at) = found (get machine.store (Snapshot version)) whole in
      let (other, also, (head, tag, is)) = holds.each (Snapshot version) blob at in
      (blob, record { tag = head.destination; schemas = other.model; halves = is.halves; before = table_of is.halves; indexes = []; walks = [] }, at, (head, is.accepted, refl, refl, refl, refl))

  pub load_taken : (position : Position) × LoadStep machine version (reply.Load state.tag) (loaded_to machine version position)
  load_taken =
      let (blob, position, at, loads) = can_load in
      let stands = loads_state machine.store chain holds version state blob position there at loads in
      (position, (blob, position, at, loads, sym stands.tag, refl))

  pub load_only : (answer : Reply) (next : Machine) → LoadStep machine version answer next
      → (position : Position) × StandsAt state position × (position.indexes ≡ []) × (position.walks ≡ []) × (answer ≡ reply.Load state.tag) × (next ≡ loaded_to machine version position)
  load_only (reply.Load tag) next (blob, position, at, loads, tag_is, next_is) =
      let stands = loads_state machine.store chain holds version state blob position there at loads in
      (position, stands, loads.4, loads.5, ap (λ (t : ℤ). reply.Load t) (tag_is ∙ stands.tag), next_is)
  load_only (reply.Refused refusal) next step = let (blob, position, at, loads) = can_load in absurd (no_load_refusal version (get machine.store (Snapshot version)) blob position at loads refusal step.0)
  load_only _ next step = absurd step

  pub load_fresh : (now : Position) (answer : Reply) (next : Machine) → machine.consumer ≡ Some now → now.tag ≡ state.tag → now.schemas ≡ state.model → now.indexes ≡ [] → now.walks ≡ [] → LoadStep machine version answer next
      → Fresh chain machine next
  load_fresh now answer next was tag own bare unwalked step =
      let (position, stands, none, no_walks, answer_is, next_is) = load_only answer next step in
      record {
        now = now;
        was = was;
        version = version;
        state = state;
        there = there;
        tag = tag;
        position = position;
        model = stands.model ∙ sym own;
        sees = stands_sees machine.store chain holds version state position there stands;
        indexes = none ∙ sym bare;
        walks = no_walks ∙ sym unwalked;
        last = Some version;
        past = [];
        is = next_is;
      }
