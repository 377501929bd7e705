-- What a producer has to do with a chain: it has published nothing, or it is at a published state of the chain.
use Rattle.std.specs.Prelude.{◌≡◌, ◌⊎◌, ℕ, ℤ, Option, IfSome, All, IsTrue, IsUtf8, true}
use Rattle.std.specs.FinMap.{get}
use Rattle.hol_io.specs.declared.name.BlobName.{BlobName}
use Rattle.hol_io.specs.Store.{Store}
use Rattle.blob_grammar.specs.Decided.{AreBytes}
use Rattle.schema_model.specs.Growth.{Grows}
use Rattle.schema_model.specs.Model.{IsModel}
use Rattle.schema_model.specs.Schema.{EachName}
use Rattle.row_model.specs.Table.{Table, EachRow}
use Rattle.row_packing.specs.Written.{IsStored}
use Rattle.chain_store.specs.Tags.{IsTagTaken}
use Rattle.state_blobs.specs.Published.{new_producer, Published}
use Rattle.written_laws.specs.Chain.{Chain, ChainState, HasVersion}
use Rattle.written_laws.specs.HoldsChain.{HoldsChain}
use Rattle.written_laws.specs.SeenChain.{seen_in}

-- The state that a producer publishes behind its last one: its model, and these rows under this tag.
abbrev pub state_behind : Published → ℤ → Table → ChainState
state_behind last tag rows = record { tag = tag; parent = last.version; published = true; model = last.model; table = rows }

-- The producer's last state is a published one of the chain, under its version and with its tag, seen through the producer's model, which grows that of
-- the state; and a blob can hold its rows, since none has a least INT or LONG.
pub record IsAt (chain : Chain) (last : Published) : Type 0 where
  pub state : ChainState
  pub there : HasVersion chain last.version state
  pub published : IsTrue state.published
  pub tag : last.tag ≡ state.tag
  pub grows : Grows state.model last.model
  pub rows : last.rows ≡ seen_in last.model state
  pub stored : EachRow last.model last.rows (λ schema row. IsStored row)

-- A producer over the chain: it has a model, whose names are texts, and it is new or at a published state.
pub record IsOver (chain : Chain) (last : Published) : Type 0 where
  pub model : IsModel last.model
  pub texts : All (EachName IsUtf8) last.model
  pub stands : (last ≡ new_producer last.model) ⊎ IsAt chain last

-- There is no producer, or it is over the chain.
abbrev pub IsProducerOf : Chain → Option Published → Type 0
IsProducerOf chain producer = IfSome producer (IsOver chain)

-- The store holds the chain, and the tag of each state is that of a blob.
pub record KeepsChain (store : Store) (chain : Chain) : Type 0 where
  pub holds : HoldsChain store chain
  pub tags : (version : ℕ) (state : ChainState) → HasVersion chain version state → IsTagTaken store state.tag

-- What the store has under each name are bytes.
abbrev pub HoldsBytes : Store → Type 0
HoldsBytes store = (name : BlobName) → IfSome (get store name) AreBytes
