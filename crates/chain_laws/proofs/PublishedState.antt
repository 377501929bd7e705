-- A cycle that publishes: the store holds the chain with the state more, at which the producer is then; and with the first puts alone, it holds it with
-- that state not published.
use Rattle.std.proofs.Common.{◌≡◌, ◌≢◌, ◌≤◌, ◌<◌, ◌^◌, ◌⊎◌, ℕ, zero, suc, ℤ, List, [], ◌∷◌, ◌++◌, Bool, true, false, length, take, Some, None, inl, inr, refl, sym, ap, subst, ◌∙◌, arith}
use Rattle.std.specs.Prelude.{All, FitsSigned, IsSome, IsTrue, is_some, Option}
use Rattle.std.specs.Fmt.{decimal}
use Rattle.std.specs.Int.{w64, cast_unsigned}
use Rattle.std.specs.FinMap.{get, insert, nat_cmp-IsAntisymmetric}
use Rattle.std.specs.Cmp.{nat_cmp_total}
use Rattle.std.proofs.lemmas.Int.{ints}
use Rattle.std.proofs.lemmas.List.{length-append}
use Rattle.hol_io.specs.declared.name.BlobName.{BlobName}
use Rattle.hol_io.specs.declared.name.BlobName.TheVariants.{Snapshot, Delta, Reverse, Announced}
use Rattle.hol_io.specs.Name.{IsVersion}
use Rattle.hol_io.specs.Store.{Store}
use Rattle.row_model.specs.PlainTree.{PlainTree}
use Rattle.schema_growth.proofs.Growths.{grows_itself}
use Rattle.row_model.specs.Table.{Table}
use Rattle.row_packing.specs.Places.{Agree}
use Rattle.seen_rows.proofs.Views.{own_view}
use Rattle.write_engine.specs.Cycle.{Next}
use Rattle.write_engine.specs.CycleLimit.{TellsTypes}
use Rattle.chain_store.specs.Announced.{Announces, IsAnnounced}
use Rattle.chain_store.specs.Tags.{IsBlob}
use Rattle.chain_store.specs.Versions.{newest}
use Rattle.blob_writing.specs.Changes.{IsDeltaBetween}
use Rattle.blob_writing.specs.Snapshot.{IsWrittenSnapshot}
use Rattle.hollow_machine.specs.Follow.{MayFollow}
use Rattle.state_blobs.specs.Puts.{AreWhole, IsShort, Put, put_all, puts_of}
use Rattle.state_blobs.specs.Published.{Published}
use Rattle.written_laws.specs.Chain.{Chain, ChainState, HasVersion, Follows, IsSound}
use Rattle.written_laws.specs.HoldsChain.{HasBlobs, HoldsChain, IsOfChain, IsSnapshotOfState, IsThere, LeadsBack, LeadsForth, OfStep}
use Rattle.written_laws.specs.Delta.{LeadsTo}
use Rattle.written_laws.specs.SeenChain.{seen_in}
use Rattle.written_laws.specs.Snapshot.{header_between}
use Rattle.written_laws.specs.States.{AreStates, IsWritableModel}
use Rattle.written_laws.proofs.DeltaRead.{delta_read}
use Rattle.written_laws.proofs.SnapshotRead.{snapshot_read}
use Rattle.written_laws.proofs.StatesBack.{states_back}
use Rattle.chain_laws.specs.Producers.{IsOver, KeepsChain, state_behind}
use Rattle.chain_laws.proofs.Inserting.{inserted, beside}
use Rattle.chain_laws.proofs.LastState.{IsLast, last_is}
use Rattle.chain_laws.proofs.LongerChain.{earlier, longer_held, longer_kept}
use Rattle.chain_laws.proofs.NewState.{states, state_after, same_rows, sound}
use Rattle.chain_laws.proofs.Putting.{IsPutIn, IsUntouched, both_untouched, front_in, front_untouched, last_there, put_in_either, put_or_before, put_there, untouched, without_last}
use Rattle.chain_laws.proofs.StoreNames.{found, newest_below, taken}
use Rattle.chain_laws.proofs.WrittenTags.{delta_tagged, snapshot_tagged}

abbrev kind_of : BlobName → ℕ
kind_of (Snapshot version) = 0
kind_of (Delta from to) = 1
kind_of (Reverse from to) = 2
kind_of Announced = 3

-- names of two kinds differ
delta_reverse : {a b c d : ℕ} → Delta a b ≡ Reverse c d → ⊥
delta_reverse same = let no : 1 ≡ 2 = ap kind_of same in omega (arith, no)

snapshot_delta : {v a b : ℕ} → Snapshot v ≡ Delta a b → ⊥
snapshot_delta same = let no : 0 ≡ 1 = ap kind_of same in omega (arith, no)

snapshot_reverse : {v a b : ℕ} → Snapshot v ≡ Reverse a b → ⊥
snapshot_reverse same = let no : 0 ≡ 2 = ap kind_of same in omega (arith, no)

module _ (store : Store) (chain : Chain) (last : Published) (version : ℕ) (tag : ℤ) (trees : List (ℕ × PlainTree)) (rows : Table)
    (kept : KeepsChain store chain) (over : IsOver chain last) (writable : IsWritableModel last.model) (may : MayFollow store last.version version tag) (is_version : IsVersion version) (fits : FitsSigned w64 tag)
    (made : Next last.model last.rows trees rows) (limits : TellsTypes last.model last.rows rows None) (published : Bool) where
  abbrev state : ChainState
  state = record (state_behind last tag rows) { published = published }

  abbrev longer : Chain
  longer = insert chain version state

  is_last : IsLast last
  is_last = last_is store chain last kept over

  are : AreStates last.model last.rows rows
  are = states last rows trees writable is_last.once is_last.state made limits

  is_sound : IsSound state
  is_sound =
      let behind = sound last rows trees writable is_last.once is_last.state made limits tag fits (λ e. may.unused (inl e)) in
      record {
        tag = behind.tag;
        tagged = behind.tagged;
        model = behind.model;
        rows = behind.rows;
        closed = behind.closed;
        once = behind.once;
        ordinals = behind.ordinals;
        bytes = behind.bytes;
      }

  new_here : HasVersion longer version state
  new_here = inserted nat_cmp_total nat_cmp-IsAntisymmetric chain version state

  follow : (last.version ≡ 0) ⊎ Follows chain version state
  follow =
      elim over.stands [
        | inl new ↦ inl (ap (λ (p : Published). p.version) new)
        | inr at ↦ inr record {
          before = at.state;
          there = at.there;
          earlier = earlier store chain kept version may.later last.version at.state at.there;
          published = at.published;
          model = at.grows;
          agree = λ t inside. subst (λ (old : Table). Agree old rows t) at.rows (same_rows last rows trees writable is_last.once is_last.state made limits t);
        }
      ]

  snapshot_is : (blob : List ℕ) → IsWrittenSnapshot last.model last.rows rows last.tag tag blob → length blob ≤ 2 ^ 28 → IsSnapshotOfState state blob
  snapshot_is blob is short = (header_between last.tag tag last.model, refl, snapshot_read last.model last.rows rows are last.tag tag blob is_last.tag fits short is)

  small : cast_unsigned w64 tag < 2 ^ 64
  small = omega (arith, ints)

  -- a name of the store is none of a blob of the new state
  apart : (name put : BlobName) (blob : List ℕ) → get store name ≡ Some blob → version ≤ newest put → name ≡ put → ⊥
  apart name put blob at high same =
      let low = newest_below store name blob at in
      let one = ap newest same in
      let later = may.later in
      omega (arith, low, one, high, later)

  not_announced : (name : BlobName) → IsBlob name → name ≡ Announced → ⊥
  not_announced name of_blob same = subst IsBlob same of_blob

  says : (after : Store) → get after Announced ≡ Some (decimal version) → IsAnnounced after version
  says after at = subst (λ (content : Option (List ℕ)). Announces content version) (sym at) (is_version, refl)

  -- the snapshot that is put is that of the new state
  one_in : (snapshot : List ℕ) → IsWrittenSnapshot last.model last.rows rows last.tag tag snapshot → length snapshot ≤ 2 ^ 28 → (name : BlobName) (blob : List ℕ)
      → IsPutIn ((Snapshot version, snapshot) ∷ []) name blob → IsOfChain longer name blob
  one_in snapshot written short name blob (inl (is, same)) =
      subst (λ (n : BlobName). IsOfChain longer n blob) (sym is) (subst (IsOfChain longer (Snapshot version)) (sym same) (state, new_here, snapshot_is snapshot written short))
  one_in snapshot written short name blob (inr none) = absurd none

  -- the puts of a first state
  module _ (snapshot : List ℕ) (zero_before : last.version ≡ 0) (written : IsWrittenSnapshot last.model last.rows rows last.tag tag snapshot) (short : length snapshot ≤ 2 ^ 28) where
    abbrev first_puts : List Put
    first_puts = (Snapshot version, snapshot) ∷ (Announced, decimal version) ∷ []

    abbrev first_store : Store
    first_store = put_all store first_puts

    first_each : (name : BlobName) (blob : List ℕ) → IsPutIn first_puts name blob → IsOfChain longer name blob
    first_each name blob (inl here) = one_in snapshot written short name blob (inl here)
    first_each name blob (inr (inl (is, same))) = subst (λ (n : BlobName). IsOfChain longer n blob) (sym is) tt
    first_each name blob (inr (inr none)) = absurd none

    each_of : (name : BlobName) (blob : List ℕ) → IsPutIn first_puts name blob ⊎ (get store name ≡ Some blob) → IsOfChain longer name blob ⊎ (get store name ≡ Some blob)
    each_of name blob (inl put) = inl (first_each name blob put)
    each_of name blob (inr was) = inr was

    there : get first_store (Snapshot version) ≡ Some snapshot
    there = put_there (Snapshot version, snapshot) ((Announced, decimal version) ∷ []) store (not_announced (Snapshot version) tt, tt)

    pub first_kept : IsTrue published → KeepsChain first_store longer
    first_kept is_published =
        longer_kept store first_store chain kept version state may.later is_version is_sound may.announced (λ t. may.unused (inr t)) follow
        (λ name blob of_blob at.
        untouched first_puts store name (apart name (Snapshot version) blob at (omega arith), (not_announced name of_blob, tt)) ∙ at)
        (λ name blob at. each_of name blob (put_or_before first_puts store name blob at))
        (λ v other is. subst IsSome (untouched first_puts store (Snapshot v) (λ e. other (ap newest e), (not_announced (Snapshot v) tt, tt))) is)
        (inl (zero_before, ap is_some there)) is_published
        (says first_store (put_there (Announced, decimal version) [] (insert store (Snapshot version) snapshot) tt))
        (taken first_store tag (Snapshot version) snapshot tt there (snapshot_tagged last.model last.rows rows last.tag tag snapshot small written))

    -- the snapshot alone
    abbrev begun_store : Store
    begun_store = put_all store ((Snapshot version, snapshot) ∷ [])

    begun_each : (name : BlobName) (blob : List ℕ) → IsPutIn ((Snapshot version, snapshot) ∷ []) name blob ⊎ (get store name ≡ Some blob) → IsOfChain longer name blob ⊎ (get store name ≡ Some blob)
    begun_each name blob (inl put) = inl (first_each name blob (front_in 1 first_puts name blob put))
    begun_each name blob (inr was) = inr was

    pub first_held : (IsTrue published → ⊥) → HoldsChain begun_store longer
    first_held unpublished =
        longer_held store begun_store chain kept version state may.later is_version is_sound may.announced (λ t. may.unused (inr t)) follow
        (λ name blob of_blob at. untouched ((Snapshot version, snapshot) ∷ []) store name (apart name (Snapshot version) blob at (omega arith), tt) ∙ at)
        (λ name blob at. begun_each name blob (put_or_before ((Snapshot version, snapshot) ∷ []) store name blob at))
        (λ v other is. subst IsSome (untouched ((Snapshot version, snapshot) ∷ []) store (Snapshot v) ((λ e. other (ap newest e)), tt)) is)
        (inl (zero_before, ap is_some (put_there (Snapshot version, snapshot) [] store tt))) unpublished
        (untouched ((Snapshot version, snapshot) ∷ []) store Announced ((λ e. not_announced (Snapshot version) tt (sym e)), tt))

  -- the state of the producer's last version, and the new one behind it
  of_step : last.version ≢ 0 → (P : ChainState → ChainState → Type 0) → ((before : ChainState) → last.tag ≡ before.tag → last.rows ≡ seen_in last.model before → P before state)
      → OfStep longer last.version version P
  of_step nonzero P holds =
      elim over.stands [
        | inl new ↦ absurd (nonzero (ap (λ (p : Published). p.version) new))
        | inr at ↦
            (let low = earlier store chain kept version may.later last.version at.state at.there in
            let stays : HasVersion longer last.version at.state =
            beside nat_cmp_total nat_cmp-IsAntisymmetric chain version state last.version (λ e. omega (arith, e, low)) ∙ at.there in
            (at.state, state, stays, new_here, refl, holds at.state at.tag at.rows))
      ]

  -- ---- the snapshot of a later state, where it is asked for, and else nothing

  whole_in : (with_snapshot : Bool) (whole : List Put) → AreWhole with_snapshot last rows version tag whole → All IsShort whole → (name : BlobName) (blob : List ℕ) → IsPutIn whole name blob
      → IsOfChain longer name blob
  whole_in true whole (snapshot, written, is) short name blob put =
      let all = subst (All IsShort) is short in
      one_in snapshot written (all 0 (Announced, []) (omega arith)) name blob (subst (λ (puts : List Put). IsPutIn puts name blob) is put)
  whole_in false whole none short name blob put = absurd (subst (λ (puts : List Put). IsPutIn puts name blob) none put)

  whole_apart : (with_snapshot : Bool) (whole : List Put) → AreWhole with_snapshot last rows version tag whole → (name : BlobName) → (name ≡ Snapshot version → ⊥) → IsUntouched whole name
  whole_apart true whole (snapshot, written, is) name other = subst (λ (puts : List Put). IsUntouched puts name) (sym is) (other, tt)
  whole_apart false whole none name other = subst (λ (puts : List Put). IsUntouched puts name) (sym none) tt

  -- the puts of a later state
  module _ (with_snapshot : Bool) (delta reverse : List ℕ) (whole : List Put) (nonzero : last.version ≢ 0) (forward : IsDeltaBetween last.model last.rows rows last.tag tag delta)
      (back : IsDeltaBetween last.model rows last.rows tag last.tag reverse) (written : AreWhole with_snapshot last rows version tag whole)
      (short_delta : length delta ≤ 2 ^ 28) (short_reverse : length reverse ≤ 2 ^ 28) (short : All IsShort whole) where
    abbrev announcing : Put
    announcing = (Announced, decimal version)

    abbrev blobs : List Put
    blobs = (Delta last.version version, delta) ∷ (Reverse version last.version, reverse) ∷ whole

    abbrev later_puts : List Put
    later_puts = puts_of blobs version

    abbrev later_store : Store
    later_store = put_all store later_puts

    leads_from : (before : ChainState) → last.tag ≡ before.tag → last.rows ≡ seen_in last.model before → LeadsTo last.model last.rows rows last.tag tag delta → LeadsForth before state delta
    leads_from before its_tag its_rows leads =
        subst (λ (t : Table). LeadsTo last.model t rows before.tag tag delta) its_rows (subst (λ (z : ℤ). LeadsTo last.model last.rows rows z tag delta) its_tag leads)

    leads_to : (before : ChainState) → last.tag ≡ before.tag → last.rows ≡ seen_in last.model before → LeadsTo last.model rows last.rows tag last.tag reverse → LeadsBack before state reverse
    leads_to before its_tag its_rows leads =
        subst (λ (t : Table). LeadsTo last.model rows t tag before.tag reverse) its_rows (subst (λ (z : ℤ). LeadsTo last.model rows last.rows tag z reverse) its_tag leads)

    behind_in : (name : BlobName) (blob : List ℕ) → IsPutIn whole name blob ⊎ IsPutIn (announcing ∷ []) name blob → IsOfChain longer name blob
    behind_in name blob (inl put) = whole_in with_snapshot whole written short name blob put
    behind_in name blob (inr (inl (is, same))) = subst (λ (n : BlobName). IsOfChain longer n blob) (sym is) tt
    behind_in name blob (inr (inr none)) = absurd none

    later_each : (name : BlobName) (blob : List ℕ) → IsPutIn later_puts name blob → IsOfChain longer name blob
    later_each name blob (inl (is, same)) =
        subst (λ (n : BlobName). IsOfChain longer n blob) (sym is)
        (subst (IsOfChain longer (Delta last.version version)) (sym same)
        (of_step nonzero (λ before after. LeadsForth before after delta)
        (λ before its_tag its_rows. leads_from before its_tag its_rows (delta_read last.model last.rows rows are last.tag tag delta is_last.tag fits short_delta forward))))
    later_each name blob (inr (inl (is, same))) =
        subst (λ (n : BlobName). IsOfChain longer n blob) (sym is)
        (subst (IsOfChain longer (Reverse version last.version)) (sym same)
        (of_step nonzero (λ before after. LeadsBack before after reverse)
        (λ before its_tag its_rows. leads_to before its_tag its_rows
        (delta_read last.model rows last.rows (states_back last.model last.rows rows are) tag last.tag reverse fits is_last.tag short_reverse back))))
    later_each name blob (inr (inr more)) = behind_in name blob (put_in_either whole (announcing ∷ []) name blob more)

    later_each_of : (name : BlobName) (blob : List ℕ) → IsPutIn later_puts name blob ⊎ (get store name ≡ Some blob) → IsOfChain longer name blob ⊎ (get store name ≡ Some blob)
    later_each_of name blob (inl put) = inl (later_each name blob put)
    later_each_of name blob (inr was) = inr was

    abbrev with_delta : Store
    with_delta = insert store (Delta last.version version) delta

    -- what stands behind the two deltas touches no other name than the snapshot's and that of the announced version
    behind_apart : (name : BlobName) → (name ≡ Snapshot version → ⊥) → (name ≡ Announced → ⊥) → IsUntouched (whole ++ announcing ∷ []) name
    behind_apart name other unannounced = both_untouched whole (announcing ∷ []) name (whole_apart with_snapshot whole written name other) (unannounced, tt)

    delta_apart : IsUntouched (whole ++ announcing ∷ []) (Delta last.version version)
    delta_apart = behind_apart (Delta last.version version) (λ e. snapshot_delta (sym e)) (not_announced (Delta last.version version) tt)

    reverse_apart : IsUntouched (whole ++ announcing ∷ []) (Reverse version last.version)
    reverse_apart = behind_apart (Reverse version last.version) (λ e. snapshot_reverse (sym e)) (not_announced (Reverse version last.version) tt)

    there_delta : get later_store (Delta last.version version) ≡ Some delta
    there_delta = put_there (Delta last.version version, delta) ((Reverse version last.version, reverse) ∷ (whole ++ announcing ∷ [])) store (delta_reverse, delta_apart)

    there_reverse : get later_store (Reverse version last.version) ≡ Some reverse
    there_reverse = put_there (Reverse version last.version, reverse) (whole ++ announcing ∷ []) with_delta reverse_apart

    -- no put is under the name of a blob that was there
    blobs_apart : (name : BlobName) (blob : List ℕ) → IsBlob name → get store name ≡ Some blob → IsUntouched later_puts name
    blobs_apart name blob of_blob at = (
      apart name (Delta last.version version) blob at (omega arith),
      (
        apart name (Reverse version last.version) blob at (omega arith),
        behind_apart name (apart name (Snapshot version) blob at (omega arith)) (not_announced name of_blob),
      ),
    )

    -- nor under that of another snapshot
    snapshots_apart : (v : ℕ) → (v ≡ version → ⊥) → IsUntouched later_puts (Snapshot v)
    snapshots_apart v other = (snapshot_delta, (snapshot_reverse, behind_apart (Snapshot v) (λ e. other (ap newest e)) (not_announced (Snapshot v) tt)))

    pub later_kept : IsTrue published → KeepsChain later_store longer
    later_kept is_published =
        longer_kept store later_store chain kept version state may.later is_version is_sound may.announced (λ t. may.unused (inr t)) follow
        (λ name blob of_blob at. untouched later_puts store name (blobs_apart name blob of_blob at) ∙ at)
        (λ name blob at. later_each_of name blob (put_or_before later_puts store name blob at))
        (λ v other is. subst IsSome (untouched later_puts store (Snapshot v) (snapshots_apart v other)) is)
        (inr record { forward = ap is_some there_delta; back = λ is. ap is_some there_reverse }) is_published
        (says later_store (last_there blobs announcing store))
        (taken later_store tag (Delta last.version version) delta tt there_delta (delta_tagged last.model last.rows rows last.tag tag delta small forward))

    -- the store with the first puts
    abbrev part_store : ℕ → Store
    part_store count = put_all store (take count later_puts)

    part_each : (count : ℕ) (name : BlobName) (blob : List ℕ) → IsPutIn (take count later_puts) name blob ⊎ (get store name ≡ Some blob) → IsOfChain longer name blob ⊎ (get store name ≡ Some blob)
    part_each count name blob (inl put) = inl (later_each name blob (front_in count later_puts name blob put))
    part_each count name blob (inr was) = inr was

    part_held : (IsTrue published → ⊥) → (count : ℕ) → IsUntouched (take count later_puts) Announced → HasBlobs (part_store count) version state → HoldsChain (part_store count) longer
    part_held unpublished count unannounced has =
        longer_held store (part_store count) chain kept version state may.later is_version is_sound may.announced (λ t. may.unused (inr t)) follow
        (λ name blob of_blob at. untouched (take count later_puts) store name (front_untouched count later_puts name (blobs_apart name blob of_blob at)) ∙ at)
        (λ name blob at. part_each count name blob (put_or_before (take count later_puts) store name blob at))
        (λ v other is. subst IsSome (untouched (take count later_puts) store (Snapshot v) (front_untouched count later_puts (Snapshot v) (snapshots_apart v other))) is)
        has unpublished (untouched (take count later_puts) store Announced unannounced)

    -- there is no snapshot of the new version yet
    none_yet : IsThere store (Snapshot version) → ⊥
    none_yet there =
        let (blob, at) = found (get store (Snapshot version)) there in
        let low = newest_below store (Snapshot version) blob at in
        let later = may.later in
        omega (arith, low, later)

    -- nor is the state published, with the delta alone
    not_either : (IsTrue published → ⊥) → IsTrue published ⊎ IsThere (insert store (Delta last.version version) delta) (Snapshot version) → ⊥
    not_either unpublished (inl is) = unpublished is
    not_either unpublished (inr is) = none_yet (subst IsSome (untouched ((Delta last.version version, delta) ∷ []) store (Snapshot version) (snapshot_delta, tt)) is)

    abbrev announced_apart : (name : BlobName) → IsBlob name → Announced ≡ name → ⊥
    announced_apart name of_blob same = not_announced name of_blob (sym same)

    -- some puts, but not all of them: the announced version is that of before
    pub later_held : (IsTrue published → ⊥) → (count : ℕ) → 1 ≤ count → count < length later_puts → HoldsChain (part_store count) longer
    later_held unpublished zero some few = absurd (omega (arith, some))
    later_held unpublished (suc zero) some few =
        part_held unpublished 1 (announced_apart (Delta last.version version) tt, tt) (
        inr record {
          forward = ap is_some (put_there (Delta last.version version, delta) [] store tt);
          back = λ either. absurd (not_either unpublished either);
        })
    later_held unpublished (suc (suc more)) some few =
        let within : more ≤ length whole = (let long = length-append whole (announcing ∷ []) in omega (arith, few, long)) in
        part_held unpublished (suc (suc more)) (
          announced_apart (Delta last.version version) tt,
          (
            announced_apart (Reverse version last.version) tt,
            without_last more whole announcing Announced within (whole_apart with_snapshot whole written Announced (announced_apart (Snapshot version) tt)),
          ),
        ) (
        inr record {
          forward = ap is_some (put_there (Delta last.version version, delta) ((Reverse version last.version, reverse) ∷ take more (whole ++ announcing ∷ [])) store
              (delta_reverse, front_untouched more (whole ++ announcing ∷ []) (Delta last.version version) delta_apart));
          back = λ is. ap is_some (put_there (Reverse version last.version, reverse) (take more (whole ++ announcing ∷ [])) with_delta
              (front_untouched more (whole ++ announcing ∷ []) (Reverse version last.version) reverse_apart));
        })

  pub over_longer : IsTrue published → IsOver longer (record { model = last.model; rows = rows; tag = tag; version = version })
  over_longer is_published = record {
    model = over.model;
    texts = over.texts;
    stands = inr record {
      state = state;
      there = new_here;
      published = is_published;
      tag = refl;
      grows = grows_itself last.model;
      rows = sym (own_view last.model rows over.model (state_after last rows trees writable is_last.once is_last.state made limits).rows);
      stored = (state_after last rows trees writable is_last.once is_last.state made limits).stored;
    };
  }

  -- the states that were there are there
  pub versions_stay : (v : ℕ) (s : ChainState) → HasVersion chain v s → HasVersion longer v s
  versions_stay v s there =
      let low = earlier store chain kept version may.later v s there in
      beside nat_cmp_total nat_cmp-IsAntisymmetric chain version state v (λ e. omega (arith, e, low)) ∙ there
