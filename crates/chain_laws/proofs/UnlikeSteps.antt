-- A step along a blob of a chain that starts where the consumer stands, and does not agree with its model, is refused for the first type that does not.
use Rattle.std.proofs.Common.{◌≡◌, ◌≤◌, ◌∙◌, ℕ, zero, suc, List, [], ◌∷◌, length, take, slice_get, Option, Some, None, Ok, inl, inr, refl, sym, ap, subst, arith}
use Rattle.std.specs.Prelude.{All, IsSomeAnd}
use Rattle.std.specs.FinMap.{get}
use Rattle.std.proofs.lemmas.List.Elements.{All-cons, All-head, All-nil, All-tail}
use Rattle.std.proofs.lemmas.Option.{same_Some}
use Rattle.hol_io.specs.declared.name.BlobName.{BlobName}
use Rattle.schema_model.specs.declared.limit.Limit.TheVariants.{Blob}
use Rattle.schema_model.specs.declared.model.rule.Rule.TheVariants.{DuplicateName}
use Rattle.schema_model.specs.declared.schema.name.Name.{Name}
use Rattle.schema_model.specs.declared.schema.Schema.{Schema}
use Rattle.schema_model.specs.Growth.{Agree}
use Rattle.schema_model.specs.Limit.{number_of_limit}
use Rattle.schema_model.specs.Model.{IsKept, IsModel}
use Rattle.schema_model.specs.Parts.{index_of_type}
use Rattle.schema_model.proofs.ModelFacts.{index_at}
use Rattle.schema_growth.proofs.Growths.{name_there, named_there}
use Rattle.blob_frame.specs.declared.fault.BlobFault.{BlobFault}
use Rattle.blob_frame.specs.declared.fault.BlobFault.TheVariants as fault
use Rattle.blob_frame.specs.declared.header.Header.{Header}
use Rattle.blob_frame.specs.Header.{HeaderIs, header}
use Rattle.blob_faults.specs.Judge.{◌>>=◌, each_of, nothing, test}
use Rattle.blob_faults.specs.Models.{names_once}
use Rattle.blob_faults.specs.Reading.{short, standing, starts}
use Rattle.delta_blob.specs.declared.part.DeltaPart.{DeltaPart}
use Rattle.delta_blob.specs.declared.patch.PatchPart.{PatchPart}
use Rattle.delta_blob.specs.Judged as judged
use Rattle.delta_blob.specs.Meant.{Disagrees, IsIndexFor, IsMeant}
use Rattle.delta_blob.specs.Parts.{body}
use Rattle.delta_blob.specs.Patch.{AgreesWith, DeltaItems}
use Rattle.delta_blob.proofs.Meant.{agrees_with, all_at, index_for}
use Rattle.delta_blob.proofs.PatchTelling.{passes_patch}
use Rattle.delta_blob.proofs.WholeDeltas.{split}
use Rattle.read_engine.specs.Judged.{RefusesStep, step_of}
use Rattle.read_engine.specs.Position.{Position}
use Rattle.hol_answers.specs.BlobRefusal.{refusal_of_blob}
use Rattle.hol_answers.specs.declared.refusal.Refusal.{Refusal}
use Rattle.hol_answers.specs.declared.refusal.Refusal.TheVariants.{OtherModel}
use Rattle.hol_answers.specs.declared.reply.Reply.{Reply}
use Rattle.hol_answers.specs.declared.reply.Reply.TheVariants as reply
use Rattle.hollow_machine.proofs.Refusals.{some_one}
use Rattle.hollow_machine.specs.State.{Machine}
use Rattle.hollow_machine.specs.StepOrder.{DeltaRefusal, StepRefusal, StepStep}
use Rattle.written_laws.specs.Chain.{Chain}
use Rattle.written_laws.specs.HoldsChain.{HoldsChain}
use Rattle.written_laws.specs.SeenChain.{IsAgreeing, IsUnlike}
use Rattle.chain_laws.specs.Consumers.{Agrees, IsIn, IsUnlikeAt, StartsAt}
use Rattle.chain_laws.proofs.ConsumerMoves.{IsBetween, delta_of, model_in}
use Rattle.chain_laws.proofs.ConsumerOrders.{header_is}
use Rattle.chain_laws.proofs.StoreNames.{found_with}

-- ---- types

module _ (schemas : List Schema) (kept : IsKept schemas DuplicateName) where
  -- a type that the model has under another schema does not agree
  not_agreeing : (part : DeltaPart) → Disagrees schemas part.schema → AgreesWith schemas part → ⊥
  not_agreeing part differs agrees =
      let meant = differs.meant in
      let named = (index_at schemas part.schema.name kept differs.index).0 meant.first in
      let name : differs.mine.name ≡ part.schema.name = same_Some _ _ (sym (name_there schemas differs.index differs.mine meant.stands) ∙ named) in
      differs.differs (all_at (λ (mine : Schema). mine.name ≡ part.schema.name → Agree mine part.schema) schemas differs.index differs.mine agrees meant.stands name)

  -- The first of the types that does not agree is at fault.
  record IsFirstUnlike (parts : List DeltaPart) (found : BlobFault) : Type 0 where
    index : ℕ
    part : DeltaPart
    at : slice_get parts index ≡ Some part
    earlier : All (AgreesWith schemas) (take index parts)
    differs : AgreesWith schemas part → ⊥
    is : found ≡ fault.OtherModel part.schema.name

  part_agrees : (part : DeltaPart) (v : _) → (judged.of_model schemas part).Passes v → AgreesWith schemas part
  unfolding judged.of_model
  part_agrees part None none = agrees_with schemas kept part None none
  part_agrees part (Some named) is = agrees_with schemas kept part (Some named.type_index) is.agrees

  types_failed : (parts : List DeltaPart) (found : BlobFault) → (each_of (judged.of_model schemas) parts).Fails found → IsFirstUnlike parts found
  unfolding each_of ◌>>=◌ nothing judged.of_model
  types_failed [] found fails = absurd fails
  types_failed (part ∷ parts) found (inl fails) =
      record { index = 0; part = part; at = refl; earlier = All-nil (AgreesWith schemas); differs = not_agreeing part fails.0; is = fails.1 }
  types_failed (part ∷ parts) found (inr (v, passes, inl fails)) =
      let first = types_failed parts found fails in
      record {
        index = suc first.index;
        part = first.part;
        at = first.at;
        earlier = All-cons (AgreesWith schemas) part (take first.index parts) (part_agrees part v passes) first.earlier;
        differs = first.differs;
        is = first.is;
      }
  types_failed (part ∷ parts) found (inr (v, passes, inr none)) = absurd none.2

  types_passed : (parts : List DeltaPart) (named : _) → (each_of (judged.of_model schemas) parts).Passes named → All (AgreesWith schemas) parts
  unfolding each_of ◌>>=◌ nothing
  types_passed [] named passes = All-nil (AgreesWith schemas)
  types_passed (part ∷ parts) named (v, passes, (rest, each, is)) = All-cons (AgreesWith schemas) part parts (part_agrees part v passes) (types_passed parts rest each)

  -- one that agrees passes
  passes_at : (part : DeltaPart) (o : Option ℕ) → IsIndexFor schemas part.schema o → (v : _) × (judged.of_model schemas part).Passes v
  unfolding judged.of_model
  passes_at part None none = (None, none)
  passes_at part (Some t) agrees = (Some (record { type_index = t; part = part }), record { agrees = agrees; same = refl })

  -- one that does not is in the model under another schema
  disagrees : (part : DeltaPart) (o : Option ℕ) → index_of_type schemas part.schema.name ≡ o → (AgreesWith schemas part → ⊥) → Disagrees schemas part.schema
  disagrees part None none differs = absurd (differs (agrees_with schemas kept part None none))
  disagrees part (Some t) first differs =
      let (mine, stands, name) = named_there schemas t part.schema.name ((index_at schemas part.schema.name kept t).0 first) in
      let meant : IsMeant schemas part.schema t mine = record { first = first; stands = stands } in
      record {
        index = t;
        mine = mine;
        meant = meant;
        differs = λ agree. differs (agrees_with schemas kept part (Some t) (record { mine = mine; meant = meant; agree = agree }));
      }

  types_unlike : (parts : List DeltaPart) (index : ℕ) (part : DeltaPart) → slice_get parts index ≡ Some part → All (AgreesWith schemas) (take index parts) → (AgreesWith schemas part → ⊥)
      → (each_of (judged.of_model schemas) parts).Fails (fault.OtherModel part.schema.name)
  unfolding each_of ◌>>=◌ nothing judged.of_model
  types_unlike [] index part at earlier differs = absurd cc
  types_unlike (first ∷ parts) zero part at earlier differs =
      let same : part ≡ first = same_Some part first (sym at) in
      inl (disagrees first (index_of_type schemas first.schema.name) refl (subst (λ (p : DeltaPart). AgreesWith schemas p → ⊥) same differs), ap (λ (p : DeltaPart). fault.OtherModel p.schema.name) same)
  types_unlike (first ∷ parts) (suc index) part at earlier differs =
      let (v, passes) = passes_at first (index_of_type schemas first.schema.name) (index_for schemas kept first (All-head (AgreesWith schemas) first (take index parts) earlier)) in
      inr (v, passes, inl (types_unlike parts index part at (All-tail (AgreesWith schemas) first (take index parts) earlier) differs))

-- ---- a blob that starts where the consumer stands

module _ (blob : List ℕ) (head : Header) (parts : List DeltaPart) (items : DeltaItems blob head parts) (few : length blob ≤ number_of_limit Blob) (now : Position) (model : IsModel now.schemas)
    (origin : head.origin ≡ now.tag) where
  -- the header and the types behind it
  begun : (n : ℕ) × HeaderIs blob n head × body.Stands blob n parts (length blob)
  begun = split blob head parts (length blob) items.items

  -- The fault of it tells the first type that does not agree.
  pub record IsToldUnlike (found : BlobFault) : Type 0 where
    pub type_name : Name
    pub unlike : IsUnlike now.schemas blob type_name
    pub is : found ≡ fault.OtherModel type_name

  told_unlike : (found : BlobFault) → IsFirstUnlike now.schemas (model DuplicateName) parts found → IsToldUnlike found
  told_unlike found first = record {
    type_name = first.part.schema.name;
    unlike = record {
      head = head;
      parts = parts;
      items = items;
      index = first.index;
      part = first.part;
      at = first.at;
      named = refl;
      earlier = first.earlier;
      differs = first.differs;
    };
    is = first.is;
  }

  agreeing_by : All (AgreesWith now.schemas) parts → IsAgreeing now.schemas blob
  agreeing_by agree = record { head = head; parts = parts; items = items; agree = agree }

  pub unlike_fails : (index : ℕ) (part : DeltaPart) → slice_get parts index ≡ Some part → All (AgreesWith now.schemas) (take index parts) → (AgreesWith now.schemas part → ⊥)
      → (step_of blob now).Fails (fault.OtherModel part.schema.name)
  unfolding step_of judged.delta_of judged.patch_of judged.parts_in ◌>>=◌ short standing starts test nothing names_once
  unlike_fails index part at earlier differs =
      let fails = types_unlike now.schemas (model DuplicateName) parts index part at earlier differs in
      inl (inr (tt, few, inr ((head, begun.0), begun.1, inr (tt, origin, inl (inr ((parts, length blob), begun.2, inr (tt, items.once, inl fails)))))))

  module _ (none : IsAgreeing now.schemas blob → ⊥) where
    failed_types : (found : BlobFault) → (judged.parts_in now.schemas parts).Fails found → IsToldUnlike found
    unfolding judged.parts_in ◌>>=◌ names_once
    failed_types found (inl (t, breaking, blames)) = absurd (items.once t breaking.broken)
    failed_types found (inr (u, once, inl fails)) = told_unlike found (types_failed now.schemas (model DuplicateName) parts found fails)
    failed_types found (inr (u, once, inr (named, passes, rest))) = absurd (none (agreeing_by (types_passed now.schemas (model DuplicateName) parts named passes)))

    failed_patch : (found : BlobFault) → (judged.patch_of blob begun.0 now.schemas).Fails found → IsToldUnlike found
    unfolding judged.patch_of ◌>>=◌ standing
    failed_patch found (inl (place, why, stuck, is)) = absurd (body.decided.apart blob begun.0 parts (length blob) place why begun.2 stuck)
    failed_patch found (inr ((others, next), stands, fails)) =
        let same = (body.decided.one blob begun.0 others parts next (length blob) stands begun.2).0 in
        failed_types found (subst (λ (ps : List DeltaPart). (judged.parts_in now.schemas ps).Fails found) same fails)

    -- the header that stands is this one
    same_header : (other : Header) (n : ℕ) → HeaderIs blob n other → (other ≡ head) × (n ≡ begun.0)
    same_header other n begins = header.decided.one blob 0 other head n begun.0 begins begun.1

    passed_agrees : (v : Header × List PatchPart) → (judged.delta_of blob now.tag now.schemas).Passes v → All (AgreesWith now.schemas) parts
    unfolding judged.delta_of ◌>>=◌ short test standing starts nothing
    passed_agrees v (u, small, ((h, n), begins, (w, same, (named, passes, is)))) =
        let (others, stands, are) = passes_patch now.schemas model blob n named passes in
        let at = (same_header h n begins).1 in
        let one = (body.decided.one blob begun.0 others parts (length blob) (length blob) (subst (λ (k : ℕ). body.Stands blob k others (length blob)) at stands) begun.2).0 in
        subst (λ (ps : List DeltaPart). All (AgreesWith now.schemas) ps) one are.agree

    pub step_fails : (found : BlobFault) → (step_of blob now).Fails found → IsToldUnlike found
    unfolding step_of judged.delta_of ◌>>=◌ short standing starts test nothing
    step_fails found (inl (inl large)) = let over = large.0 in absurd (omega (arith, over, few))
    step_fails found (inl (inr (u, small, inl (place, why, stuck, is)))) = absurd (header.decided.apart blob 0 head begun.0 place why begun.1 stuck)
    step_fails found (inl (inr (u, small, inr ((h, n), begins, inl apart)))) = absurd (apart.0 (ap (λ (x : Header). x.origin) (same_header h n begins).0 ∙ origin))
    step_fails found (inl (inr (u, small, inr ((h, n), begins, inr (w, same, inl fails))))) =
        failed_patch found (subst (λ (k : ℕ). (judged.patch_of blob k now.schemas).Fails found) (same_header h n begins).1 fails)
    step_fails found (inl (inr (u, small, inr ((h, n), begins, inr (w, same, inr (named, passes, nothing_fails)))))) = absurd nothing_fails
    step_fails found (inr (v, passes, rest)) = absurd (none (agreeing_by (passed_agrees v passes)))

-- ---- the order

told_refusal : (name : BlobName) (found : BlobFault) (type_name : Name) (refusal : Refusal) → found ≡ fault.OtherModel type_name → refusal_of_blob name found ≡ Ok refusal → refusal ≡ OtherModel name type_name
told_refusal name found type_name refusal is told =
    let both : Ok (OtherModel name type_name) ≡ Ok refusal = ap (refusal_of_blob name) (sym is) ∙ told in
    cc

module _ (machine : Machine) (chain : Chain) (name : BlobName) (version : ℕ) (now : Position) (holds : HoldsChain machine.store chain) (was : machine.consumer ≡ Some now) (is : IsIn chain now)
    (starts_at : StartsAt machine.store name now.tag) where
  -- a blob that does not agree is refused for that
  pub unlike_refused : (type_name : Name) → IsUnlikeAt machine.store name now.schemas type_name → StepStep machine name version (reply.Refused (OtherModel name type_name)) machine
  unlike_refused type_name unlike =
      let content = get machine.store name in
      let (head, (other, n, at_other, few, begins), origin) = starts_at in
      let (blob, at, first) = found_with content (λ b. IsUnlike now.schemas b type_name) unlike in
      let small = subst (λ (b : List ℕ). length b ≤ number_of_limit Blob) (some_one content other blob at_other at) few in
      let starts_there = ap (λ (h : Header). h.origin) (sym (header_is content blob head first.head first.parts at (other, n, at_other, few, begins) first.items)) ∙ origin in
      let fails = unlike_fails blob first.head first.parts first.items small now (model_in machine.store chain holds now is) starts_there first.index first.part first.at first.earlier first.differs in
      let named = subst (λ (t : Name). (step_of blob now).Fails (fault.OtherModel t)) first.named fails in
      let refuses : RefusesStep name content now (fault.OtherModel type_name) = subst (λ (c : Option (List ℕ)). RefusesStep name c now (fault.OtherModel type_name)) (sym at) named in
      let so : DeltaRefusal name content now (OtherModel name type_name) = (fault.OtherModel type_name, refuses, refl) in
      (subst (λ (consumer : Option Position). StepRefusal name content consumer (OtherModel name type_name)) (sym was) so, refl)

module _ (machine : Machine) (chain : Chain) (name : BlobName) (begin version : ℕ) (now : Position) (holds : HoldsChain machine.store chain) (between : IsBetween name begin version) (was : machine.consumer ≡ Some now)
    (is : IsIn chain now) (starts_at : StartsAt machine.store name now.tag) (apart : ¬ Agrees machine.store name now.schemas) where
  abbrev stored : Option (List ℕ)
  stored = get machine.store name

  -- no blob of this name agrees
  none_agrees : (blob : List ℕ) → stored ≡ Some blob → IsAgreeing now.schemas blob → ⊥
  none_agrees blob at agreeing = apart (subst (λ (content : Option (List ℕ)). IsSomeAnd content (IsAgreeing now.schemas)) (sym at) agreeing)

  -- What is answered where it does not agree.
  abbrev IsRefusedUnlike : Reply → Machine → Type 0
  IsRefusedUnlike answer next = (type_name : Name) × IsUnlikeAt machine.store name now.schemas type_name × (answer ≡ reply.Refused (OtherModel name type_name)) × (next ≡ machine)

  refused_so : (refusal : Refusal) (next : Machine) → DeltaRefusal name stored now refusal → next ≡ machine → IsRefusedUnlike (reply.Refused refusal) next
  refused_so refusal next (found, fails, told) same =
      let (head, (blob, n, at, few, begins), origin) = starts_at in
      let (from, to, has_from, has_to, own, patch, delta_is) = delta_of machine.store chain holds name blob begin version between at in
      let items = delta_is.items in
      let starts_there = ap (λ (h : Header). h.origin) (sym (header_is stored blob head delta_is.head delta_is.parts at (blob, n, at, few, begins) items)) ∙ origin in
      let unlike = step_fails blob delta_is.head delta_is.parts items few now (model_in machine.store chain holds now is) starts_there (none_agrees blob at) found
      (subst (λ (content : Option (List ℕ)). RefusesStep name content now found) at fails) in (
        unlike.type_name,
        subst (λ (content : Option (List ℕ)). IsSomeAnd content (λ b. IsUnlike now.schemas b unlike.type_name)) (sym at) unlike.unlike,
        ap (λ (r : Refusal). reply.Refused r) (told_refusal name found unlike.type_name refusal unlike.is told),
        same,
      )

  pub unlike_only : (answer : Reply) (next : Machine) → StepStep machine name version answer next → IsRefusedUnlike answer next
  unlike_only (reply.Step tag) next step =
      let (here, also, (blob, to, at, steps, tag_is, next_is)) = found_with machine.consumer _ step in
      let same : here ≡ now = some_one machine.consumer here now also was in
      let agreeing : IsAgreeing here.schemas blob = record { head = steps.is.head; parts = steps.is.parts; items = steps.is.items; agree = steps.is.agree } in
      absurd (none_agrees blob at (subst (λ (p : Position). IsAgreeing p.schemas blob) same agreeing))
  unlike_only (reply.Refused refusal) next step = refused_so refusal next (subst (λ (consumer : Option Position). StepRefusal name stored consumer refusal) was step.0) step.1
  unlike_only _ next step = absurd step
