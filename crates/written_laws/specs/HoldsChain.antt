-- What a store holds of a chain: each blob is one of a state, and the blobs of each state that must be there are there. They may be any
-- writer's.
use Rattle.std.specs.Prelude.{◌≡◌, ◌≤◌, ◌⊎◌, ℕ, ℤ, List, Some, IsSome, IsTrue, length}
use Rattle.std.specs.FinMap.{get}
use Rattle.hol_io.specs.declared.name.BlobName.{BlobName}
use Rattle.hol_io.specs.declared.name.BlobName.TheVariants.{Snapshot, Delta, Reverse, Announced}
use Rattle.hol_io.specs.Store.{Store}
use Rattle.schema_model.specs.declared.limit.Limit.TheVariants.{Blob}
use Rattle.schema_model.specs.declared.schema.Schema.{Schema}
use Rattle.schema_model.specs.Limit.{number_of_limit}
use Rattle.blob_frame.specs.declared.header.Header.{Header}
use Rattle.chain_store.specs.Announced.{IsAnnounced}
use Rattle.written_laws.specs.Chain.{Chain, ChainState, HasVersion, IsChain, IsLastPublished}
use Rattle.written_laws.specs.Delta.{LeadsTo}
use Rattle.delta_blob.specs.Fits.{Fits}
use Rattle.delta_blob.specs.Moved.{Moved}
use Rattle.delta_blob.specs.Patch.{TypePatch, DeltaIs}
use Rattle.written_laws.specs.Quiet.{IsQuiet}
use Rattle.written_laws.specs.SeenChain.{seen_in}
use Rattle.written_laws.specs.Snapshot.{IsSnapshotWith}
use Rattle.delta_blob.specs.Within.{KeepItems, Within}

-- The blob is a snapshot of the state, with its tag as the destination.
abbrev pub IsSnapshotOfState : ChainState → List ℕ → Type 0
IsSnapshotOfState state blob = (head : Header) × (head.destination ≡ state.tag) × IsSnapshotWith state.model state.table head blob

-- The blob is a delta from an earlier state to the later one that follows it: through the later model, from what is seen of the earlier rows to the later ones.
abbrev pub LeadsForth : ChainState → ChainState → List ℕ → Type 0
LeadsForth before after blob = LeadsTo after.model (seen_in after.model before) after.table before.tag after.tag blob

-- It is one back, through the later model too: from the later rows to what is seen of the earlier ones.
abbrev pub LeadsBack : ChainState → ChainState → List ℕ → Type 0
LeadsBack before after blob = LeadsTo after.model after.table (seen_in after.model before) after.tag before.tag blob

-- The chain has a state under the later version, which follows the one under the earlier version, and of both this holds.
abbrev pub OfStep : Chain → ℕ → ℕ → (ChainState → ChainState → Type 0) → Type 0
OfStep chain earlier later P = (before after : ChainState) × HasVersion chain earlier before × HasVersion chain later after × (after.parent ≡ earlier) × P before after

-- What a store has under a name is that of the chain: a snapshot of a state, the delta to a state from the one that it follows, or the one
-- back.
abbrev pub IsOfChain : Chain → BlobName → List ℕ → Type 0
IsOfChain chain (Snapshot version) blob = (state : ChainState) × HasVersion chain version state × IsSnapshotOfState state blob
IsOfChain chain (Delta from to) blob = OfStep chain from to (λ before after. LeadsForth before after blob)
IsOfChain chain (Reverse from to) blob = OfStep chain to from (λ before after. LeadsBack before after blob)
IsOfChain chain Announced blob = Unit {0}

-- The store has something under the name.
abbrev pub IsThere : Store → BlobName → Type 0
IsThere store name = IsSome (get store name)

-- The blobs of a state that follows another one: the delta to it, and the one back, where the state is published or its snapshot is there. What a run that
-- failed leaves is a state that is not published, with the first of them.
pub record HasStep (store : Store) (version : ℕ) (state : ChainState) : Type 0 where
  pub forward : IsThere store (Delta state.parent version)
  pub back : IsTrue state.published ⊎ IsThere store (Snapshot version) → IsThere store (Reverse version state.parent)

-- The blobs of a state that must be there: the snapshot of a root, and those of a step.
abbrev pub HasBlobs : Store → ℕ → ChainState → Type 0
HasBlobs store version state = ((state.parent ≡ 0) × IsThere store (Snapshot version)) ⊎ HasStep store version state

-- The store holds the chain, and announces its last published version.
pub record HoldsChain (store : Store) (chain : Chain) : Type 0 where
  pub sound : IsChain chain
  pub each : (name : BlobName) (blob : List ℕ) → get store name ≡ Some blob → IsOfChain chain name blob
  pub all : (version : ℕ) (state : ChainState) → HasVersion chain version state → HasBlobs store version state
  pub announced : (version : ℕ) × IsLastPublished chain version × IsAnnounced store version

-- The name is that of a delta or a reverse delta.
abbrev pub IsStep : BlobName → Type 0
IsStep (Delta from to) = Unit {0}
IsStep (Reverse from to) = Unit {0}
IsStep _ = ⊥

-- the version of the later of the two states between which a delta leads
abbrev pub later_of : BlobName → ℕ
later_of (Delta from to) = to
later_of (Reverse from to) = from
later_of _ = 0

-- For a model a delta leads from what is seen of this state to what is seen of another one of the chain, by the patch that it is against the model, and passes
-- no limit; and nothing is seen there of what has one name and two kinds.
pub record LeadsOn (chain : Chain) (mine : List Schema) (state : ChainState) (blob : List ℕ) (origin destination : ℤ) (patch : List TypePatch) (is : DeltaIs mine blob origin destination patch) : Type 0 where
  pub version : ℕ
  pub next : ChainState
  pub there : HasVersion chain version next
  pub tag : next.tag ≡ destination
  pub quiet : IsQuiet mine next
  pub fits : Fits mine (seen_in mine state) patch
  pub moved : Moved patch (seen_in mine state) (seen_in mine next)
  pub within : Within (seen_in mine next) patch
  pub items : KeepItems mine is.parts
  pub short : length blob ≤ number_of_limit Blob
