-- Over a store that holds a chain a consumer sees states of the chain, and takes each blob of it that starts there and agrees with its model.
use Rattle.std.proofs.Common.{◌≡◌, ℕ, ℤ, List, length, Some, refl, sym, ap, subst, ◌∙◌}
use Rattle.std.proofs.lemmas.List.{length-map}
use Rattle.std.specs.FinMap.{get}
use Rattle.hol_io.specs.declared.name.BlobName.{BlobName}
use Rattle.hol_io.specs.declared.name.BlobName.TheVariants.{Delta, Reverse, Snapshot}
use Rattle.hol_io.specs.Store.{Store}
use Rattle.schema_model.specs.declared.model.walk_path.WalkPath.{WalkPath}
use Rattle.schema_model.specs.declared.schema.Schema.{Schema}
use Rattle.schema_model.specs.Model.{IsModel}
use Rattle.row_model.specs.Table.{Table}
use Rattle.type_state.specs.State.{Half}
use Rattle.type_state.specs.Views.{table_of}
use Rattle.blob_frame.specs.declared.header.Header.{Header}
use Rattle.snapshot_blob.proofs.Whole.{one_snapshot}
use Rattle.delta_blob.specs.declared.part.DeltaPart.{DeltaPart}
use Rattle.delta_blob.specs.Fits.{Fits}
use Rattle.delta_blob.specs.Moved.{Moved}
use Rattle.delta_blob.specs.Parts.{delta}
use Rattle.delta_blob.specs.Patch.{DeltaIs, DeltaItems, TypePatch}
use Rattle.delta_blob.specs.Within.{Within}
use Rattle.delta_blob.proofs.OnePatch.{tags_once}
use Rattle.read_engine.specs.Position.{Position, rows_now}
use Rattle.read_engine.specs.Taking.{LoadsFrom, StepsBy}
use Rattle.read_engine.specs.Walks.{KeepsWalks}
use Rattle.step_laws.proofs.DecidedWalks.{walks_kept}
use Rattle.written_laws.specs.Chain.{Chain, ChainState, HasVersion}
use Rattle.written_laws.specs.HoldsChain.{HoldsChain, IsStep, LeadsOn}
use Rattle.written_laws.specs.Quiet.{IsQuiet}
use Rattle.written_laws.specs.SeenChain.{IsAgreeing, seen_in}
use Rattle.written_laws.proofs.ChainSteps.{one_state, step_leads, step_read}
use Rattle.written_laws.proofs.MovedOnce.{moved_once}
use Rattle.written_laws.proofs.SeenStates.{own_seen, quiet_itself}
use Rattle.chain_laws.specs.Consumers.{IsHome, IsIn, Sees, StandsAt}
use Rattle.chain_laws.specs.KeptIndexes.{AreIndexes}
use Rattle.chain_laws.specs.KeptWalks.{AreWalks}
use Rattle.chain_laws.proofs.AddedIndexes.{no_indexes}
use Rattle.chain_laws.proofs.AddedWalks.{kept_walks, no_walks}
use Rattle.chain_laws.proofs.NextPosition.{next_halves, next_table, next_count, next_others, next_named}

-- the blob is a delta, or a reverse delta, from one version to another
abbrev pub IsBetween : BlobName → ℕ → ℕ → Type 0
IsBetween (Delta from to) begin end = (from ≡ begin) × (to ≡ end)
IsBetween (Reverse from to) begin end = (from ≡ begin) × (to ≡ end)
IsBetween _ begin end = ⊥

pub is_step : (name : BlobName) (begin end : ℕ) → IsBetween name begin end → IsStep name
is_step (Delta from to) begin end between = tt
is_step (Reverse from to) begin end between = tt
is_step _ begin end between = absurd between

-- the items of a delta say from which tag it leads
pub begins_at : (schemas : List Schema) (blob : List ℕ) (origin destination : ℤ) (patch : List TypePatch) (head : Header) (parts : List DeltaPart) → DeltaIs schemas blob origin destination patch → DeltaItems blob head parts
    → head.origin ≡ origin
begins_at schemas blob origin destination patch head parts is items =
    let same : ◌≡◌ {A = Header × List DeltaPart} (head, parts) (is.head, is.parts)
    = (delta.decided.one blob 0 (head, parts) (is.head, is.parts) (length blob) (length blob) items.items is.items.items).0 in
    ap (λ (v : Header × List DeltaPart). v.0.origin) same ∙ is.from_tag

module _ (store : Store) (chain : Chain) (holds : HoldsChain store chain) where
  pub one : (version : ℕ) (a b : ChainState) → HasVersion chain version a → HasVersion chain version b → a ≡ b
  one version a b at also = one_state chain version a b at also

  -- ---- loads

  -- what is loaded of a version is its state
  pub loads_state : (version : ℕ) (state : ChainState) (blob : List ℕ) (position : Position) → HasVersion chain version state → get store (Snapshot version) ≡ Some blob → LoadsFrom blob position → StandsAt state position
  loads_state version state blob position there at (head, accepted, tag_is, before, none, unwalked) =
      let (other, also, (its_head, its_tag, is)) = holds.each (Snapshot version) blob at in
      let same : other ≡ state = one version other state also there in
      let once = one_snapshot blob head its_head accepted.0 is.accepted.0 position.schemas other.model position.halves is.halves accepted.1 is.accepted.1 in
      subst (λ (s : ChainState). StandsAt s position) same record {
        tag = tag_is ∙ ap (λ (h : Header). h.destination) once.0 ∙ its_tag;
        model = once.2;
        rows = ap table_of once.3 ∙ is.rows;
      }

  -- who stands at a state sees it
  pub stands_sees : (version : ℕ) (state : ChainState) (position : Position) → HasVersion chain version state → StandsAt state position → Sees state position
  stands_sees version state position there stands = record {
    tag = stands.tag;
    rows = stands.rows ∙ sym (own_seen chain version state holds.sound there) ∙ ap (λ (m : List Schema). seen_in m state) (sym stands.model);
  }

  pub loads_in : (version : ℕ) (blob : List ℕ) (position : Position) → get store (Snapshot version) ≡ Some blob → LoadsFrom blob position → IsIn chain position
  loads_in version blob position at loads =
      let (state, there, is) = holds.each (Snapshot version) blob at in
      let stands = loads_state version state blob position there at loads in
      record {
        version = version;
        state = state;
        there = there;
        sees = stands_sees version state position there stands;
        home = record { version = version; state = state; there = there; model = sym stands.model };
        quiet = subst (λ (m : List Schema). IsQuiet m state) (sym stands.model) (quiet_itself chain version state holds.sound there);
        indexes = subst (AreIndexes position.schemas) (sym loads.4) (no_indexes position.schemas);
        walks = subst (AreWalks position.schemas (rows_now position)) (sym loads.5) (no_walks position.schemas (rows_now position));
      }

  -- a consumer in the chain is at the version that has its tag
  pub in_version : (version : ℕ) (state : ChainState) (position : Position) → HasVersion chain version state → state.tag ≡ position.tag → (is : IsIn chain position) → is.version ≡ version
  in_version version state position there tag is = holds.sound.tags is.version version is.state state is.there there (sym is.sees.tag ∙ sym tag)

  -- a load leads to its version
  pub loads_at : (version : ℕ) (blob : List ℕ) (position : Position) → get store (Snapshot version) ≡ Some blob → LoadsFrom blob position → (is : IsIn chain position) × (is.version ≡ version)
  loads_at version blob position at loads =
      let (state, there, snapshot) = holds.each (Snapshot version) blob at in
      let is = loads_in version blob position at loads in
      (is, in_version version state position there (sym (loads_state version state blob position there at loads).tag) is)

  -- ---- steps

  -- a delta of the chain is one between the tags of the states of its two versions
  pub delta_of : (name : BlobName) (blob : List ℕ) (begin end : ℕ) → IsBetween name begin end → get store name ≡ Some blob
      → (from to : ChainState) × HasVersion chain begin from × HasVersion chain end to × (own : List Schema) × (patch : List TypePatch) × DeltaIs own blob from.tag to.tag patch
  delta_of (Delta from to) blob begin end between at =
      let (before, after, was, there, parent, leads) = holds.each (Delta from to) blob at in (
        before,
        after,
        subst (λ (v : ℕ). HasVersion chain v before) between.0 was,
        subst (λ (v : ℕ). HasVersion chain v after) between.1 there,
        after.model,
        leads.patch,
        leads.is,
      )
  delta_of (Reverse from to) blob begin end between at =
      let (before, after, was, there, parent, leads) = holds.each (Reverse from to) blob at in (
        after,
        before,
        subst (λ (v : ℕ). HasVersion chain v after) between.0 there,
        subst (λ (v : ℕ). HasVersion chain v before) between.1 was,
        after.model,
        leads.patch,
        leads.is,
      )
  delta_of _ blob begin end between at = absurd between

  -- the model of a consumer in the chain is one
  pub model_in : (now : Position) → IsIn chain now → IsModel now.schemas
  model_in now is = subst IsModel is.home.model (holds.sound.sound is.home.version is.home.state is.home.there).model

  module _ (name : BlobName) (blob : List ℕ) (of_step : IsStep name) (at : get store name ≡ Some blob) (now : Position) (is : IsIn chain now) (destination : ℤ) (patch : List TypePatch)
      (delta_is : DeltaIs now.schemas blob now.tag destination patch) where
    on : LeadsOn chain now.schemas is.state blob now.tag destination patch delta_is
    on = step_leads store chain holds now.schemas (model_in now is) name blob now.tag destination patch is.version is.state is.quiet of_step at delta_is is.there (sym is.sees.tag)

    moved : Moved patch (rows_now now) (seen_in now.schemas on.next)
    moved = subst (λ (t : Table). Moved patch t (seen_in now.schemas on.next)) (sym is.sees.rows) on.moved

    new_types : length (seen_in now.schemas on.next) ≡ length now.schemas
    new_types = length-map now.schemas _

    old_types : length (rows_now now) ≡ length now.schemas
    old_types = ap (λ (t : Table). length t) is.sees.rows ∙ length-map now.schemas _

    count : length now.halves ≡ length now.schemas
    count = sym (length-map now.halves (λ (half : Half). half.rows)) ∙ old_types

    abbrev halves : List Half
    halves = next_halves now.schemas now.halves delta_is.parts patch delta_is.items.once delta_is.sees (seen_in now.schemas on.next) new_types count

    table : table_of halves ≡ seen_in now.schemas on.next
    table = next_table now.schemas now.halves delta_is.parts patch delta_is.items.once delta_is.sees (seen_in now.schemas on.next) new_types count

    -- the walk indexes that it keeps there
    abbrev kept : (after : List WalkPath) × KeepsWalks now.schemas (table_of halves) now.walks after
    kept = walks_kept now.schemas (table_of halves) now.walks

    -- a delta of the chain from where the consumer stands, which it can read, is one that it can take
    pub step_there : (to : Position) × StepsBy blob now to
    step_there = (
      record { tag = destination; schemas = now.schemas; halves = halves; before = rows_now now; indexes = now.indexes; walks = kept.0 },
      record {
        patch = patch;
        is = delta_is;
        fits = subst (λ (t : Table). Fits now.schemas t patch) (sym is.sees.rows) on.fits;
        moved = subst (λ (t : Table). Moved patch (rows_now now) t) (sym table) moved;
        within = subst (λ (t : Table). Within t patch) (sym table) on.within;
        items = on.items;
        short = on.short;
        model = refl;
        types = next_count now.schemas now.halves delta_is.parts patch delta_is.items.once delta_is.sees (seen_in now.schemas on.next) new_types count;
        layouts = next_named now.schemas now.halves delta_is.parts patch delta_is.items.once delta_is.sees (seen_in now.schemas on.next) new_types count;
        others = next_others now.schemas now.halves delta_is.parts patch delta_is.items.once delta_is.sees (seen_in now.schemas on.next) new_types count;
        before = refl;
        indexes = refl;
        walks = kept.1;
      },
    )

  -- behind a step along a blob of the chain a consumer is in the chain
  pub steps_in : (name : BlobName) (blob : List ℕ) (now to : Position) → IsStep name → get store name ≡ Some blob → IsIn chain now → StepsBy blob now to → IsIn chain to
  steps_in name blob now to of_step at is steps =
      let leads = on name blob of_step at now is to.tag steps.patch steps.is in
      let there = moved name blob of_step at now is to.tag steps.patch steps.is in
      let rows : rows_now to ≡ seen_in now.schemas leads.next = moved_once steps.patch (rows_now now) (rows_now to) (seen_in now.schemas leads.next) steps.moved there in
      record {
        version = leads.version;
        state = leads.next;
        there = leads.there;
        sees = record { tag = sym leads.tag; rows = rows ∙ ap (λ (m : List Schema). seen_in m leads.next) (sym steps.model) };
        home = subst (IsHome chain) (sym steps.model) is.home;
        quiet = subst (λ (m : List Schema). IsQuiet m leads.next) (sym steps.model) leads.quiet;
        indexes = subst (λ (m : List Schema). AreIndexes m to.indexes) (sym steps.model) (subst (AreIndexes now.schemas) (sym steps.indexes) is.indexes);
        walks = subst (λ (m : List Schema). AreWalks m (rows_now to) to.walks) (sym steps.model) (kept_walks now.schemas (rows_now now) (rows_now to) now.walks to.walks is.walks steps.walks);
      }

  -- a step leads to the second version of its blob
  pub steps_at : (name : BlobName) (blob : List ℕ) (begin end : ℕ) (now to : Position) → IsBetween name begin end → get store name ≡ Some blob → IsIn chain now → StepsBy blob now to
      → (is : IsIn chain to) × (is.version ≡ end)
  steps_at name blob begin end now to between at was steps =
      let is = steps_in name blob now to (is_step name begin end between) at was steps in
      let (from, next, there, ends, own, patch, delta_is) = delta_of name blob begin end between at in
      let tags = tags_once own now.schemas blob from.tag next.tag now.tag to.tag patch steps.patch delta_is steps.is in
      (is, in_version end next to ends tags.1 is)

  -- a delta of the chain from where the consumer stands, which agrees with its model, is one that it can take
  pub can_take : (name : BlobName) (blob : List ℕ) (now : Position) → IsStep name → get store name ≡ Some blob → IsIn chain now → (agreeing : IsAgreeing now.schemas blob) → agreeing.head.origin ≡ now.tag
      → (to : Position) × StepsBy blob now to
  can_take name blob now of_step at is agreeing origin =
      let (destination, patch, read) = step_read store chain holds now.schemas (model_in now is) name blob is.version is.state is.quiet of_step at is.there agreeing (origin ∙ is.sees.tag) in
      step_there name blob of_step at now is destination patch (subst (λ (tag : ℤ). DeltaIs now.schemas blob tag destination patch) (sym is.sees.tag) read)
