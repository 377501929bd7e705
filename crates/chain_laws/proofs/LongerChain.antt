-- A chain with a state more, in a store with its blobs.
use Rattle.std.proofs.Common.{◌≡◌, ◌<◌, ◌⊎◌, ℕ, List, Some, inl, inr, sym, ap, subst, ◌∙◌, arith}
use Rattle.std.specs.Prelude.{IsTrue, Option, is_some}
use Rattle.std.specs.FinMap.{get, insert, nat_cmp-IsAntisymmetric}
use Rattle.std.specs.Cmp.{nat_cmp_total}
use Rattle.hol_io.specs.declared.name.BlobName.{BlobName}
use Rattle.hol_io.specs.declared.name.BlobName.TheVariants.{Snapshot, Delta, Reverse, Announced}
use Rattle.hol_io.specs.Name.{IsVersion}
use Rattle.hol_io.specs.Store.{Store}
use Rattle.chain_store.specs.Announced.{Announces, IsAnnounced}
use Rattle.chain_store.specs.Tags.{IsBlob, IsTagTaken}
use Rattle.chain_store.specs.Versions.{last_version}
use Rattle.written_laws.specs.Chain.{Chain, ChainState, HasVersion, IsSound, Follows, IsChain, IsLastPublished}
use Rattle.written_laws.specs.HoldsChain.{HoldsChain, IsOfChain, IsThere, HasBlobs}
use Rattle.chain_laws.specs.Producers.{KeepsChain}
use Rattle.chain_laws.proofs.Inserting.{inserted, beside, here_or_beside}
use Rattle.chain_laws.proofs.StoreNames.{found, newest_below, one_announced, taken_stays}

some_is : {A : Type 0} (a b : A) → Some a ≡ Some b → a ≡ b
some_is a b e = cc

-- ---- each state of a chain is of an earlier version than one that may follow

pub earlier : (store : Store) (chain : Chain) (kept : KeepsChain store chain) (version : ℕ) → last_version store < version → (v : ℕ) (s : ChainState) → HasVersion chain v s → v < version
earlier store chain kept version later v s there =
    elim (kept.holds.all v s there) [
      | inl root ↦ (let (blob, at) = found (get store (Snapshot v)) root.1 in let low = newest_below store (Snapshot v) blob at in omega (arith, low, later))
      | inr step ↦ (let (blob, at) = found (get store (Delta s.parent v)) step.forward in let low = newest_below store (Delta s.parent v) blob at in omega (arith, low, later))
    ]

module _ (store after : Store) (chain : Chain) (kept : KeepsChain store chain) (version : ℕ) (state : ChainState)
    (later : last_version store < version) (is_version : IsVersion version) (sound : IsSound state)
    (announced : IsAnnounced store state.parent) (unused : IsTagTaken store state.tag → ⊥) (follow : (state.parent ≡ 0) ⊎ Follows chain version state)
    (stays : (name : BlobName) (blob : List ℕ) → IsBlob name → get store name ≡ Some blob → get after name ≡ Some blob)
    (each : (name : BlobName) (blob : List ℕ) → get after name ≡ Some blob → IsOfChain (insert chain version state) name blob ⊎ (get store name ≡ Some blob))
    (whole : (v : ℕ) → (v ≡ version → ⊥) → IsThere after (Snapshot v) → IsThere store (Snapshot v))
    (blobs : HasBlobs after version state) where
  abbrev longer : Chain
  longer = insert chain version state

  before : (v : ℕ) (s : ChainState) → HasVersion chain v s → v < version
  before = earlier store chain kept version later

  new_here : HasVersion longer version state
  new_here = inserted nat_cmp_total nat_cmp-IsAntisymmetric chain version state

  old_stays : (v : ℕ) (s : ChainState) → HasVersion chain v s → HasVersion longer v s
  old_stays v s there =
      let low = before v s there in
      beside nat_cmp_total nat_cmp-IsAntisymmetric chain version state v (λ e. omega (arith, e, low)) ∙ there

  new_or_old : (v : ℕ) (s : ChainState) → HasVersion longer v s → ((v ≡ version) × (s ≡ state)) ⊎ HasVersion chain v s
  new_or_old v s there =
      elim (here_or_beside nat_cmp_total nat_cmp-IsAntisymmetric chain version state v) [
        | inl here ↦ inl (here.0, some_is s state (sym there ∙ here.1))
        | inr other ↦ inr (sym other.1 ∙ there)
      ]

  follows_stay : (v : ℕ) (s : ChainState) → Follows chain v s → Follows longer v s
  follows_stay v s f = record {
    before = f.before;
    there = old_stays s.parent f.before f.there;
    earlier = f.earlier;
    published = f.published;
    model = f.model;
    agree = f.agree;
  }

  still_follows : (v : ℕ) (s : ChainState) → (s.parent ≡ 0) ⊎ Follows chain v s → (s.parent ≡ 0) ⊎ Follows longer v s
  still_follows v s (inl root) = inl root
  still_follows v s (inr f) = inr (follows_stay v s f)

  tag_apart : (v : ℕ) (s : ChainState) → HasVersion chain v s → s.tag ≡ state.tag → ⊥
  tag_apart v s there same = unused (subst (IsTagTaken store) same (kept.tags v s there))

  -- no published state of the chain follows the last published one
  no_other : (v : ℕ) (s : ChainState) → HasVersion chain v s → IsTrue s.published → s.parent ≡ state.parent → ⊥
  no_other v s there is_published same =
      let (last, is_last, last_announced) = kept.holds.announced in
      let one = one_announced (get store Announced) last state.parent last_announced announced in
      let low = is_last.last v s there is_published in
      let high = kept.holds.sound.versions v s there in
      elim (kept.holds.sound.follow v s there) [
        | inl root ↦ omega (arith, one, low, high.0, same, root)
        | inr f ↦ (let up = f.earlier in omega (arith, one, low, same, up))
      ]

  on_new : (P : ℕ → ChainState → Type 0) (v : ℕ) (s : ChainState) → v ≡ version → s ≡ state → P version state → P v s
  on_new P v s is same p = subst (λ (n : ℕ). P n s) (sym is) (subst (λ (x : ChainState). P version x) (sym same) p)

  chain_longer : IsChain longer
  chain_longer = record {
    versions = λ v s there. elim (new_or_old v s there) [ inl new ↦ subst IsVersion (sym new.0) is_version | inr old ↦ kept.holds.sound.versions v s old ];
    sound = λ v s there. elim (new_or_old v s there) [ inl new ↦ subst IsSound (sym new.1) sound | inr old ↦ kept.holds.sound.sound v s old ];
    follow = λ v s there.
        elim (new_or_old v s there) [
          | inl new ↦ on_new (λ n x. (x.parent ≡ 0) ⊎ Follows longer n x) v s new.0 new.1 (still_follows version state follow)
          | inr old ↦ still_follows v s (kept.holds.sound.follow v s old)
        ];
    tags = λ u v a b at_a at_b same.
        elim (new_or_old u a at_a) [
          | inl one ↦ elim (new_or_old v b at_b) [
            | inl other ↦ one.0 ∙ sym other.0
            | inr old ↦ absurd (tag_apart v b old (sym same ∙ ap (λ (x : ChainState). x.tag) one.1))
          ]
          | inr was ↦ elim (new_or_old v b at_b) [
            | inl other ↦ absurd (tag_apart u a was (same ∙ ap (λ (x : ChainState). x.tag) other.1))
            | inr old ↦ kept.holds.sound.tags u v a b was old same
          ]
        ];
    line = λ u v a b at_a at_b pub_a pub_b same.
        elim (new_or_old u a at_a) [
          | inl one ↦ elim (new_or_old v b at_b) [
            | inl other ↦ one.0 ∙ sym other.0
            | inr old ↦ absurd (no_other v b old pub_b (sym same ∙ ap (λ (x : ChainState). x.parent) one.1))
          ]
          | inr was ↦ elim (new_or_old v b at_b) [
            | inl other ↦ absurd (no_other u a was pub_a (same ∙ ap (λ (x : ChainState). x.parent) other.1))
            | inr old ↦ kept.holds.sound.line u v a b was old pub_a pub_b same
          ]
        ];
  }

  of_stays : (name : BlobName) (blob : List ℕ) → IsOfChain chain name blob → IsOfChain longer name blob
  of_stays (Snapshot v) blob (s, there, is) = (s, old_stays v s there, is)
  of_stays (Delta from to) blob (x, y, at_x, at_y, is, leads) = (x, y, old_stays from x at_x, old_stays to y at_y, is, leads)
  of_stays (Reverse from to) blob (x, y, at_x, at_y, is, leads) = (x, y, old_stays to x at_x, old_stays from y at_y, is, leads)
  of_stays Announced blob is = is

  there_stays : (name : BlobName) → IsBlob name → IsThere store name → IsThere after name
  there_stays name of_blob there = let (blob, at) = found (get store name) there in ap is_some (stays name blob of_blob at)

  still_either : (v : ℕ) (s : ChainState) → v < version → IsTrue s.published ⊎ IsThere after (Snapshot v) → IsTrue s.published ⊎ IsThere store (Snapshot v)
  still_either v s low (inl is_published) = inl is_published
  still_either v s low (inr snapshot) = inr (whole v (λ e. omega (arith, e, low)) snapshot)

  blobs_stay : (v : ℕ) (s : ChainState) → v < version → HasBlobs store v s → HasBlobs after v s
  blobs_stay v s low (inl root) = inl (root.0, there_stays (Snapshot v) tt root.1)
  blobs_stay v s low (inr step) = inr record {
    forward = there_stays (Delta s.parent v) tt step.forward;
    back = λ either. there_stays (Reverse v s.parent) tt (step.back (still_either v s low either));
  }

  holds_longer : (last : ℕ) → IsLastPublished longer last → IsAnnounced after last → HoldsChain after longer
  holds_longer last is_last says = record {
    sound = chain_longer;
    each = λ name blob at. elim (each name blob at) [ inl new ↦ new | inr old ↦ of_stays name blob (kept.holds.each name blob old) ];
    all = λ v s there. elim (new_or_old v s there) [ inl new ↦ on_new (HasBlobs after) v s new.0 new.1 blobs | inr old ↦ blobs_stay v s (before v s old) (kept.holds.all v s old) ];
    announced = (last, is_last, says);
  }

  -- The state is published, and its version announced.
  pub longer_kept : IsTrue state.published → IsAnnounced after version → IsTagTaken after state.tag → KeepsChain after longer
  longer_kept published says tagged = record {
    holds = holds_longer version record {
      is = inr (state, new_here, published);
      last = λ v s there is_published. elim (new_or_old v s there) [ inl new ↦ omega (arith, new.0) | inr old ↦ (let low = before v s old in omega (arith, low)) ];
    } says;
    tags = λ v s there.
        elim (new_or_old v s there) [
          | inl new ↦ subst (λ (x : ChainState). IsTagTaken after x.tag) (sym new.1) tagged
          | inr old ↦ taken_stays store after s.tag stays (kept.tags v s old)
        ];
  }

  still_there : (last : ℕ) → (last ≡ 0) ⊎ ((s : ChainState) × HasVersion chain last s × IsTrue s.published) → (last ≡ 0) ⊎ ((s : ChainState) × HasVersion longer last s × IsTrue s.published)
  still_there last (inl none) = inl none
  still_there last (inr (s, there, is_published)) = inr (s, old_stays last s there, is_published)

  -- The state is not published, and what is announced stays.
  pub longer_held : (IsTrue state.published → ⊥) → get after Announced ≡ get store Announced → HoldsChain after longer
  longer_held unpublished same =
      let (last, is_last, says) = kept.holds.announced in
      holds_longer last record {
        is = still_there last is_last.is;
        last = λ v s there is_published.
            elim (new_or_old v s there) [
              | inl new ↦ absurd (unpublished (subst (λ (x : ChainState). IsTrue x.published) new.1 is_published))
              | inr old ↦ is_last.last v s old is_published
            ];
      } (subst (λ (content : Option (List ℕ)). Announces content last) (sym same) says)
