-- Going along a plan over a store that holds a chain whose models agree: no blob is refused, and the consumer comes to the version.
use Rattle.std.proofs.Common.{◌≡◌, ℕ, List, [], ◌∷◌, true, false, length, Option, Some, None, inl, inr, refl, sym, ap, subst, ◌∙◌, arith}
use Rattle.std.specs.Prelude.{Contains, IsSomeAnd}
use Rattle.std.specs.FinMap.{get}
use Rattle.std.specs.Option.{option_map}
use Rattle.hol_io.specs.declared.name.BlobName.{BlobName}
use Rattle.hol_io.specs.declared.name.BlobName.TheVariants.{Announced, Delta, Reverse, Snapshot}
use Rattle.hol_io.specs.Store.{Store, names}
use Rattle.schema_model.specs.declared.schema.Schema.{Schema}
use Rattle.schema_model.specs.Growth.{ModelsAgree}
use Rattle.hol_plan.specs.Walk.{IsWalk, Leads}
use Rattle.hol_answers.specs.declared.refusal.Refusal.{Refusal}
use Rattle.hol_answers.specs.declared.reply.Progress.{Progress}
use Rattle.hol_answers.specs.declared.reply.Reply.{Reply}
use Rattle.hol_answers.specs.declared.reply.Reply.TheVariants as reply
use Rattle.hol_answers.specs.Reply.{is_refusal}
use Rattle.read_engine.specs.Position.{Position}
use Rattle.hollow_machine.specs.PlanOrders.{Applies, Goes, GotoStep}
use Rattle.hollow_machine.specs.State.{Machine}
use Rattle.hollow_machine.specs.StepOrder.{StepRefusal, StepStep}
use Rattle.written_laws.specs.Chain.{Chain, ChainState, HasVersion}
use Rattle.written_laws.specs.HoldsChain.{HoldsChain, IsStep, IsThere, later_of}
use Rattle.written_laws.specs.SeenChain.{IsAgreeing}
use Rattle.written_laws.proofs.ChainSteps.{step_agrees}
use Rattle.chain_laws.specs.Consumers.{Agrees, Arrives, IsIn, IsReaderAt, IsReaderOf, ModelsOfChainAgree}
use Rattle.chain_laws.proofs.ConsumerMoves.{IsBetween, begins_at, can_take, delta_of, is_step, model_in, one}
use Rattle.chain_laws.proofs.ConsumerOrders.{load_only, no_refusal}
use Rattle.chain_laws.proofs.PlanLaws.{applied_leaves, gone_leaves}
use Rattle.chain_laws.proofs.StoreNames.{found, found_with, name_is}
use Rattle.chain_laws.proofs.TypedConsumers.{typed_in}

-- a delta that is there agrees with a consumer's model that agrees with that of the later of its states
pub agrees_there : (machine : Machine) (chain : Chain) (name : BlobName) (now : Position) (state : ChainState) → HoldsChain machine.store chain → IsIn chain now → IsStep name → IsThere machine.store name
    → HasVersion chain (later_of name) state → ModelsAgree now.schemas state.model → Agrees machine.store name now.schemas
agrees_there machine chain name now state holds is of_step there at agree =
    let (blob, stored) = found (get machine.store name) there in
    let agreeing = step_agrees machine.store chain holds now.schemas (model_in machine.store chain holds now is) name blob of_step stored
    (λ other also. (let same : state ≡ other = one machine.store chain holds (later_of name) state other at also in subst (λ (s : ChainState). ModelsAgree now.schemas s.model) same agree)) in
    subst (λ (content : Option (List ℕ)). IsSomeAnd content (IsAgreeing now.schemas)) (sym stored) agreeing

-- ---- no blob is refused

module _ (machine : Machine) (chain : Chain) (agree : ModelsOfChainAgree chain) (holds : HoldsChain machine.store chain) (of : IsReaderOf chain machine) where
  -- the model of a consumer agrees with each of the chain
  all_agree : (now : Position) → IsIn chain now → (version : ℕ) (state : ChainState) → HasVersion chain version state → ModelsAgree now.schemas state.model
  all_agree now is version state there = subst (λ (m : List Schema). ModelsAgree m state.model) is.home.model (agree is.home.version version is.home.state state is.home.there there)

  -- a delta of the store that starts at the consumer's version is taken
  step_not : (name : BlobName) (begin end : ℕ) (blob : List ℕ) (refusal : Refusal) (next : Machine) → IsBetween name begin end → machine.version ≡ Some begin → get machine.store name ≡ Some blob
      → StepStep machine name end (reply.Refused refusal) next → ⊥
  step_not name begin end blob refusal next between at_begin at step = by_consumer machine.consumer refl
    where
      by_consumer : (consumer : Option Position) → machine.consumer ≡ consumer → ⊥
      by_consumer None none =
          let nowhere : machine.version ≡ None = subst (λ (consumer : Option Position). IsReaderAt chain consumer machine.version machine.past) none of in
          let no : Some begin ≡ None = sym at_begin ∙ nowhere in
          cc
      by_consumer (Some now) was =
          let (is, at_version, old) = subst (λ (consumer : Option Position). IsReaderAt chain consumer machine.version machine.past) was of in
          let both : Some is.version ≡ Some begin = sym at_version ∙ at_begin in
          let here : is.version ≡ begin = cc in
          let of_step = is_step name begin end between in
          let agreeing = step_agrees machine.store chain holds now.schemas (model_in machine.store chain holds now is) name blob of_step at (all_agree now is (later_of name)) in
          let (from, next_state, begins, ends, own, patch, delta_is) = delta_of machine.store chain holds name blob begin end between at in
          let same : from ≡ is.state = one machine.store chain holds begin from is.state begins (subst (λ (v : ℕ). HasVersion chain v is.state) here is.there) in
          let origin : agreeing.head.origin ≡ now.tag = begins_at own blob from.tag next_state.tag patch agreeing.head agreeing.parts delta_is agreeing.items ∙ ap (λ (s : ChainState). s.tag) same ∙ sym is.sees.tag in
          let (to, steps) = can_take machine.store chain holds name blob now of_step at is agreeing origin in
          no_refusal name (get machine.store name) blob now to at (typed_in chain (Some now) holds.sound is) steps refusal
          (subst (λ (consumer : Option Position). StepRefusal name (get machine.store name) consumer refusal) was step.0)

  never_refused : (name : BlobName) (middle : ℕ) (refusal : Refusal) (next : Machine) → Contains (names machine.store) name → Leads name machine.version middle → Applies machine name (reply.Refused refusal) next → ⊥
  never_refused (Snapshot version) middle refusal next listed leads applies =
      let there = name_is machine.store (Snapshot version) listed in
      let (blob, at) = found (get machine.store (Snapshot version)) there in
      let (state, is, snapshot) = holds.each (Snapshot version) blob at in
      let (position, stands, none, unwalked, answer_is, next_is) = load_only machine chain version state holds is there (reply.Refused refusal) next applies in
      let no : reply.Refused refusal ≡ reply.Load state.tag = answer_is in
      cc
  never_refused (Delta from to) middle refusal next listed leads applies =
      let (blob, at) = found (get machine.store (Delta from to)) (name_is machine.store (Delta from to) listed) in
      step_not (Delta from to) from to blob refusal next (refl, refl) leads.0 at applies
  never_refused (Reverse from to) middle refusal next listed leads applies =
      let (blob, at) = found (get machine.store (Reverse from to)) (name_is machine.store (Reverse from to) listed) in
      step_not (Reverse from to) from to blob refusal next (refl, refl) leads.0 at applies
  never_refused Announced middle refusal next listed leads applies = leads

-- ---- the version behind a blob

stepped_version : (machine : Machine) (name : BlobName) (version : ℕ) (answer : Reply) (next : Machine) → StepStep machine name version answer next → is_refusal answer ≡ false → next.version ≡ Some version
stepped_version machine name version (reply.Step tag) next step taken =
    let (now, is, (blob, to, at, steps, tag_is, next_is)) = found_with machine.consumer _ step in ap (λ (m : Machine). m.version) next_is
stepped_version machine name version (reply.Refused refusal) next step taken = let no : true ≡ false = taken in absurd cc
stepped_version machine name version _ next step taken = absurd step

applied_version : (machine : Machine) (name : BlobName) (middle : ℕ) (answer : Reply) (next : Machine) → Leads name machine.version middle → Applies machine name answer next → is_refusal answer ≡ false
    → next.version ≡ Some middle
applied_version machine (Snapshot version) middle (reply.Load tag) next leads (blob, position, at, loads, tag_is, next_is) taken = ap (λ (m : Machine). m.version) next_is ∙ ap (λ (v : ℕ). Some v) leads
applied_version machine (Snapshot version) middle (reply.Refused refusal) next leads applies taken = let no : true ≡ false = taken in absurd cc
applied_version machine (Snapshot version) middle _ next leads applies taken = absurd applies
applied_version machine (Delta from to) middle answer next leads applies taken = stepped_version machine (Delta from to) to answer next applies taken ∙ ap (λ (v : ℕ). Some v) leads.1
applied_version machine (Reverse from to) middle answer next leads applies taken = stepped_version machine (Reverse from to) to answer next applies taken ∙ ap (λ (v : ℕ). Some v) leads.1
applied_version machine Announced middle answer next leads applies taken = absurd leads

-- ---- the walk

walked : (blobs : List BlobName) (machine : Machine) (chain : Chain) → ModelsOfChainAgree chain → HoldsChain machine.store chain → IsReaderOf chain machine → (wanted applied : ℕ) (refused : Option Refusal) (next : Machine)
    → IsWalk (names machine.store) machine.version wanted blobs → Goes machine blobs applied refused next → (refused ≡ None) × (applied ≡ length blobs) × (next.version ≡ Some wanted)
walked [] machine chain agree holds of wanted applied refused next walk goes = (goes.1, goes.0, ap (λ (m : Machine). m.version) goes.2 ∙ walk)
walked (name ∷ blobs) machine chain agree holds of wanted applied refused next (listed, (middle, (leads, onward))) (inl (refusal, applies, none, why)) =
    absurd (never_refused machine chain agree holds of name middle refusal next listed leads applies)
walked (name ∷ blobs) machine chain agree holds of wanted applied refused next (listed, (middle, (leads, onward))) (inr (answer, between, behind, applies, taken, count, goes)) =
    let left = applied_leaves machine name answer between applies in
    let at = applied_version machine name middle answer between leads applies taken in
    let walk = subst (λ (s : Store). IsWalk (names s) between.version wanted blobs) (sym left.store)
    (subst (λ (v : Option ℕ). IsWalk (names machine.store) v wanted blobs) (sym at) onward) in
    let (none, all, there) = walked blobs between chain agree (subst (λ (s : Store). HoldsChain s chain) (sym left.store) holds) (left.moves chain holds of) wanted behind refused next walk goes in
    (none, omega (arith, count, all), there)

-- where a consumer is that is at a version of the chain
arrived : (chain : Chain) (version : ℕ) (progress : Progress) (next : Machine) → progress.refused ≡ None → progress.applied ≡ progress.of → next.version ≡ Some version
    → progress.tag ≡ option_map (λ (now : Position). now.tag) next.consumer → (consumer : Option Position) → next.consumer ≡ consumer → IsReaderAt chain consumer next.version next.past → Arrives chain version progress next
arrived chain version progress next none all at tag None is of = let no : Some version ≡ None = sym at ∙ of in absurd cc
arrived chain version progress next none all at tag (Some position) is (is_in, at_version, old) =
    let both : Some is_in.version ≡ Some version = sym at_version ∙ at in
    let same : is_in.version ≡ version = cc in
    record {
      refused = none;
      applied = all;
      version_is = at;
      state = is_in.state;
      there = subst (λ (v : ℕ). HasVersion chain v is_in.state) same is_in.there;
      position = position;
      is = is;
      sees = is_in.sees;
      tag = tag ∙ ap (option_map (λ (now : Position). now.tag)) is ∙ ap Some is_in.sees.tag;
    }

pub goto_arrives : (machine next : Machine) (chain : Chain) (wanted : ℕ) (progress : Progress) → ModelsOfChainAgree chain → HoldsChain machine.store chain → IsReaderOf chain machine → GotoStep machine wanted (reply.Goto progress) next
    → Arrives chain wanted progress next
goto_arrives machine next chain wanted progress agree holds of (plan, is, count, goes, tag) =
    let (none, all, at) = walked plan machine chain agree holds of wanted progress.applied progress.refused next is.walks goes in
    let reader = (gone_leaves plan machine progress.applied progress.refused next goes).moves chain holds of in
    arrived chain wanted progress next none (all ∙ sym count) at tag next.consumer refl reader
