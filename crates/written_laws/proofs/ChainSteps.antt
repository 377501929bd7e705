-- For each model that it agrees with a delta of a chain leads from what is seen of the state with its origin tag to what is seen of another state of the chain.
use Rattle.std.proofs.Common.{◌≡◌, ◌≤◌, ℕ, ℤ, List, Some, length, inl, inr, sym, ap, ◌∙◌, subst, arith}
use Rattle.std.specs.Prelude.{All}
use Rattle.std.specs.FinMap.{get}
use Rattle.std.proofs.lemmas.List.{length-map}
use Rattle.hol_io.specs.declared.name.BlobName.{BlobName}
use Rattle.hol_io.specs.declared.name.BlobName.TheVariants.{Snapshot, Delta, Reverse, Announced}
use Rattle.hol_io.specs.Store.{Store}
use Rattle.schema_model.specs.declared.limit.Limit.TheVariants.{Blob}
use Rattle.schema_model.specs.declared.model.rule.Rule.TheVariants.{DuplicateName}
use Rattle.schema_model.specs.declared.schema.Schema.{Schema}
use Rattle.schema_model.specs.Growth.{Grows, ModelsAgree}
use Rattle.schema_model.specs.Limit.{number_of_limit}
use Rattle.schema_model.specs.Model.{IsModel}
use Rattle.schema_growth.proofs.Growths.{grown_agrees}
use Rattle.row_model.specs.Table.{IsClosed, IsTableOf, Table}
use Rattle.row_model.specs.View.{seen_type, view}
use Rattle.seen_rows.proofs.ViewClosed.{view_table}
use Rattle.blob_frame.specs.declared.header.Header.{Header}
use Rattle.delta_blob.specs.declared.part.DeltaPart.{DeltaPart}
use Rattle.delta_blob.specs.Fits.{Fits}
use Rattle.delta_blob.specs.Moved.{Moved}
use Rattle.delta_blob.specs.Parts.{delta}
use Rattle.delta_blob.specs.Patch.{AgreesWith, DeltaIs, DeltaItems, TypePatch}
use Rattle.delta_blob.specs.Within.{KeepItems, Within}
use Rattle.delta_blob.proofs.OnePatch.{parts_once, patch_once, tags_once}
use Rattle.view_laws.specs.SeenDelta.{LeadsSeen}
use Rattle.view_laws.proofs.SeenDeltas.{parts_agree}
use Rattle.view_laws.proofs.SeenSteps.{step_back, step_forth}
use Rattle.written_laws.specs.Chain.{Chain, ChainState, HasVersion, IsChain}
use Rattle.written_laws.specs.HoldsChain.{HoldsChain, IsStep, LeadsBack, LeadsForth, LeadsOn, later_of}
use Rattle.written_laws.specs.Quiet.{IsQuiet}
use Rattle.written_laws.specs.SeenChain.{IsAgreeing, seen_in}
use Rattle.written_laws.proofs.MovedOnce.{moved_once}
use Rattle.written_laws.proofs.QuietGrown.{quiet_earlier, quiet_later}
use Rattle.written_laws.proofs.QuietMoved.{quiet_moved}
use Rattle.written_laws.proofs.QuietRows.{quiet_closed}

-- one state stands under a version
pub one_state : (chain : Chain) (version : ℕ) (a b : ChainState) → HasVersion chain version a → HasVersion chain version b → a ≡ b
one_state chain version a b one other = let same : Some a ≡ Some b = sym one ∙ other in cc

-- the model of a state that follows another one grows its model
pub grown_model : (chain : Chain) → IsChain chain → (earlier later : ℕ) (before after : ChainState) → HasVersion chain earlier before → HasVersion chain later after → after.parent ≡ earlier → Grows before.model after.model
grown_model chain is earlier later before after there at parent =
    elim (is.follow later after at) [
      | inl root ↦ let some = (is.versions earlier before there).0 in absurd (omega (arith, root, parent, some))
      | inr follows ↦
          let same = one_state chain earlier follows.before before (subst (λ (v : ℕ). HasVersion chain v follows.before) parent follows.there) there in
          subst (λ (s : ChainState). Grows s.model after.model) same follows.model
    ]

-- What a delta leads to for a model: from what is seen of one state to what is seen of another one, which is quiet too.
record IsLed (mine : List Schema) (blob : List ℕ) (from to : ChainState) : Type 0 where
  leads : LeadsSeen mine blob from.tag to.tag (seen_in mine from) (seen_in mine to)
  quiet : IsQuiet mine to

module _ (chain : Chain) (is_chain : IsChain chain) (mine : List Schema) (model : IsModel mine) (blob : List ℕ) (before after : ChainState) (earlier later : ℕ) (has_before : HasVersion chain earlier before)
    (has_after : HasVersion chain later after) (grows : Grows before.model after.model) where
  before_model : IsModel before.model
  before_model = (is_chain.sound earlier before has_before).model

  after_model : IsModel after.model
  after_model = (is_chain.sound later after has_after).model

  before_rows : IsTableOf before.model before.table
  before_rows = (is_chain.sound earlier before has_before).rows

  after_rows : IsTableOf after.model after.table
  after_rows = (is_chain.sound later after has_after).rows

  forth : (leads : LeadsForth before after blob) → All (AgreesWith mine) leads.is.parts → IsQuiet mine before → IsLed mine blob before after
  forth leads agree quiet =
      let seen_quiet = quiet_later before.model after.model mine before.table before_model after_model grows before_rows quiet in
      let new_quiet = quiet_moved after.model mine after_model blob before.tag after.tag leads.patch leads.is leads.own agree (seen_in after.model before) after.table (length-map after.model (seen_type before.model before.table))
      leads.moved after_rows seen_quiet in
      let closed = quiet_closed after.model mine after.table after_model model after_rows (is_chain.sound later after has_after).closed new_quiet in
      let moved = moved_once leads.patch (seen_in after.model before) leads.fits.moved after.table leads.fits.moves leads.moved in
      let table = subst (IsTableOf after.model) (sym moved) after_rows in
      let seen_closed = subst (λ (t : Table). IsClosed mine (view mine after.model t)) (sym moved) closed in
      let within = subst (λ (t : Table). Within t leads.patch) (sym moved) leads.within in
      record {
        leads =
            subst (λ (t : Table). LeadsSeen mine blob before.tag after.tag (seen_in mine before) (view mine after.model t)) moved
            (step_forth before.model after.model mine before_model after_model model grows blob before.tag after.tag leads.patch leads.is leads.own agree before.table leads.fits table seen_closed within leads.items);
        quiet = new_quiet;
      }

  back : (leads : LeadsBack before after blob) → All (AgreesWith mine) leads.is.parts → IsQuiet mine after → IsLed mine blob after before
  back leads agree quiet =
      let seen_rows = view_table before.model after.model before.table (before_model DuplicateName) before_rows (grown_agrees before.model after.model after_model grows) in
      let seen_quiet = quiet_moved after.model mine after_model blob after.tag before.tag leads.patch leads.is leads.own agree after.table (seen_in after.model before) after_rows.types leads.moved seen_rows quiet in
      let new_quiet = quiet_earlier before.model after.model mine before.table before_model after_model grows before_rows seen_quiet in
      let closed = quiet_closed before.model mine before.table before_model model before_rows (is_chain.sound earlier before has_before).closed new_quiet in
      let moved = moved_once leads.patch after.table leads.fits.moved (seen_in after.model before) leads.fits.moves leads.moved in
      let table = subst (IsTableOf after.model) (sym moved) seen_rows in
      let within = subst (λ (t : Table). Within t leads.patch) (sym moved) leads.within in
      record {
        leads =
            step_back before.model after.model mine before_model after_model model grows blob after.tag before.tag leads.patch leads.is leads.own agree after.table before.table leads.fits moved table after_rows.types closed
            within leads.items;
        quiet = new_quiet;
      }

-- A delta of a chain, from one of its states to another one: where its types agree with a model it leads on for it.
record IsStepOf (chain : Chain) (mine : List Schema) (blob : List ℕ) : Type 0 where
  from : ChainState
  to : ChainState
  from_version : ℕ
  to_version : ℕ
  has_from : HasVersion chain from_version from
  has_to : HasVersion chain to_version to
  own : List Schema
  patch : List TypePatch
  is : DeltaIs own blob from.tag to.tag patch
  short : length blob ≤ number_of_limit Blob
  led : All (AgreesWith mine) is.parts → IsQuiet mine from → IsLed mine blob from to

module _ (store : Store) (chain : Chain) (holds : HoldsChain store chain) (mine : List Schema) (model : IsModel mine) where
  step_of : (name : BlobName) (blob : List ℕ) → IsStep name → get store name ≡ Some blob → IsStepOf chain mine blob
  step_of (Delta from to) blob step at =
      let (before, after, has_before, has_after, parent, leads) = holds.each (Delta from to) blob at in
      record {
        from = before;
        to = after;
        from_version = from;
        to_version = to;
        has_from = has_before;
        has_to = has_after;
        own = after.model;
        patch = leads.patch;
        is = leads.is;
        short = leads.short;
        led = λ agree quiet. forth chain holds.sound mine model blob before after from to has_before has_after (grown_model chain holds.sound from to before after has_before has_after parent) leads agree quiet;
      }
  step_of (Reverse from to) blob step at =
      let (before, after, has_before, has_after, parent, leads) = holds.each (Reverse from to) blob at in
      record {
        from = after;
        to = before;
        from_version = from;
        to_version = to;
        has_from = has_after;
        has_to = has_before;
        own = after.model;
        patch = leads.patch;
        is = leads.is;
        short = leads.short;
        led = λ agree quiet. back chain holds.sound mine model blob before after to from has_before has_after (grown_model chain holds.sound to from before after has_before has_after parent) leads agree quiet;
      }
  step_of (Snapshot one) blob step at = absurd step
  step_of Announced blob step at = absurd step

  module _ (blob : List ℕ) (version : ℕ) (state : ChainState) (there : HasVersion chain version state) (quiet : IsQuiet mine state) (of : IsStepOf chain mine blob) where
    -- the state from which it leads is the one with its tag
    from_is : of.from.tag ≡ state.tag → of.from ≡ state
    from_is tag =
        let here = holds.sound.tags of.from_version version of.from state of.has_from there tag in
        one_state chain version of.from state (subst (λ (v : ℕ). HasVersion chain v of.from) here of.has_from) there

    led_on : of.from.tag ≡ state.tag → All (AgreesWith mine) of.is.parts → IsLed mine blob of.from of.to
    led_on tag agree = of.led agree (subst (IsQuiet mine) (sym (from_is tag)) quiet)

    leads_from : (origin destination : ℤ) (patch : List TypePatch) → (is : DeltaIs mine blob origin destination patch) → state.tag ≡ origin → LeadsOn chain mine state blob origin destination patch is
    leads_from origin destination patch is tag =
        let begins = tags_once of.own mine blob of.from.tag of.to.tag origin destination of.patch patch of.is is in
        let agree = subst (λ (ps : List DeltaPart). All (AgreesWith mine) ps) (sym (parts_once of.own mine blob of.from.tag of.to.tag origin destination of.patch patch of.is is)) is.agree in
        let led = led_on (begins.0 ∙ sym tag) agree in
        let leads = led.leads in
        let table : seen_in mine of.from ≡ seen_in mine state = ap (λ (s : ChainState). seen_in mine s) (from_is (begins.0 ∙ sym tag)) in
        let patches : leads.patch ≡ patch = patch_once mine blob of.from.tag of.to.tag origin destination leads.patch patch (model DuplicateName) leads.is is in
        record {
          version = of.to_version;
          next = of.to;
          there = of.has_to;
          tag = begins.1;
          quiet = led.quiet;
          fits = subst (λ (p : List TypePatch). Fits mine (seen_in mine state) p) patches (subst (λ (t : Table). Fits mine t leads.patch) table leads.fits);
          moved = subst (λ (p : List TypePatch). Moved p (seen_in mine state) (seen_in mine of.to)) patches (subst (λ (t : Table). Moved leads.patch t (seen_in mine of.to)) table leads.moved);
          within = subst (λ (p : List TypePatch). Within (seen_in mine of.to) p) patches leads.within;
          items = subst (KeepItems mine) (parts_once mine mine blob of.from.tag of.to.tag origin destination leads.patch patch leads.is is) leads.items;
          short = of.short;
        }

    -- the types of a blob are those of one list
    same_items : (head : Header) (parts : List DeltaPart) → DeltaItems blob head parts → ◌≡◌ {A = Header × List DeltaPart} (of.is.head, of.is.parts) (head, parts)
    same_items head parts items = (delta.decided.one blob 0 (of.is.head, of.is.parts) (head, parts) (length blob) (length blob) of.is.items.items items.items).0

    -- one that agrees can be read against the model
    read_from : (agreeing : IsAgreeing mine blob) → agreeing.head.origin ≡ state.tag → (destination : ℤ) × (patch : List TypePatch) × DeltaIs mine blob state.tag destination patch
    read_from agreeing origin =
        let same = same_items agreeing.head agreeing.parts agreeing.items in
        let agree = subst (λ (ps : List DeltaPart). All (AgreesWith mine) ps) (sym (ap (λ (v : Header × List DeltaPart). v.1) same)) agreeing.agree in
        let tag : of.from.tag ≡ state.tag = sym of.is.from_tag ∙ ap (λ (v : Header × List DeltaPart). v.0.origin) same ∙ origin in
        let leads = (led_on tag agree).leads in
        (of.to.tag, leads.patch, subst (λ (t : ℤ). DeltaIs mine blob t of.to.tag leads.patch) tag leads.is)

  pub step_leads : (name : BlobName) (blob : List ℕ) (origin destination : ℤ) (patch : List TypePatch) (version : ℕ) (state : ChainState) → IsQuiet mine state → IsStep name → get store name ≡ Some blob
      → (is : DeltaIs mine blob origin destination patch) → HasVersion chain version state → state.tag ≡ origin → LeadsOn chain mine state blob origin destination patch is
  step_leads name blob origin destination patch version state quiet step at is there tag = leads_from blob version state there quiet (step_of name blob step at) origin destination patch is tag

  pub step_read : (name : BlobName) (blob : List ℕ) (version : ℕ) (state : ChainState) → IsQuiet mine state → IsStep name → get store name ≡ Some blob → HasVersion chain version state
      → (agreeing : IsAgreeing mine blob) → agreeing.head.origin ≡ state.tag → (destination : ℤ) × (patch : List TypePatch) × DeltaIs mine blob state.tag destination patch
  step_read name blob version state quiet step at there agreeing origin = read_from blob version state there quiet (step_of name blob step at) agreeing origin

  -- a delta agrees with a model that agrees with that of the later of its states
  pub step_agrees : (name : BlobName) (blob : List ℕ) → IsStep name → get store name ≡ Some blob → ((state : ChainState) → HasVersion chain (later_of name) state → ModelsAgree mine state.model) → IsAgreeing mine blob
  step_agrees (Delta from to) blob step at all =
      let (before, after, has_before, has_after, parent, leads) = holds.each (Delta from to) blob at in
      record { head = leads.is.head; parts = leads.is.parts; items = leads.is.items; agree = parts_agree after.model mine (all after has_after) leads.is.parts leads.own }
  step_agrees (Reverse from to) blob step at all =
      let (before, after, has_before, has_after, parent, leads) = holds.each (Reverse from to) blob at in
      record { head = leads.is.head; parts = leads.is.parts; items = leads.is.items; agree = parts_agree after.model mine (all after has_after) leads.is.parts leads.own }
  step_agrees (Snapshot one) blob step at all = absurd step
  step_agrees Announced blob step at all = absurd step
