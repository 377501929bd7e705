-- What a consumer has to do with a chain: it has no state, or sees that of a version of the chain, and older states of versions of it; and the same machine whose
-- consumer has it afresh.
use Rattle.std.specs.Prelude.{◌≡◌, ℕ, ℤ, List, All, Contains, Option, Some, None, IfSome, IsSomeAnd}
use Rattle.hol_io.specs.declared.name.BlobName.{BlobName}
use Rattle.hol_io.specs.Store.{Store, told}
use Rattle.blob_frame.specs.declared.header.Header.{Header}
use Rattle.blob_frame.specs.Header.{HasHeader}
use Rattle.schema_model.specs.declared.schema.name.Name.{Name}
use Rattle.schema_model.specs.declared.schema.Schema.{Schema}
use Rattle.schema_model.specs.Growth.{ModelsAgree}
use Rattle.row_model.specs.Table.{Table}
use Rattle.hol_answers.specs.declared.reply.Progress.{Progress}
use Rattle.read_engine.specs.Position.{Position, rows_now}
use Rattle.hollow_machine.specs.State.{Machine, with_reader}
use Rattle.written_laws.specs.Chain.{Chain, ChainState, HasVersion}
use Rattle.written_laws.specs.Quiet.{IsQuiet}
use Rattle.written_laws.specs.SeenChain.{IsAgreeing, IsUnlike, seen_in}
use Rattle.chain_laws.specs.KeptIndexes.{AreIndexes}
use Rattle.chain_laws.specs.KeptWalks.{AreWalks}

-- The consumer stands at the state as one does that loads it: it has its tag, its model and its rows.
pub record StandsAt (state : ChainState) (now : Position) : Type 0 where
  pub tag : now.tag ≡ state.tag
  pub model : now.schemas ≡ state.model
  pub rows : rows_now now ≡ state.table

-- The consumer sees the state through a model of its own, which may be another one: it has the state's tag, and the rows that are seen of it so.
pub record Sees (state : ChainState) (now : Position) : Type 0 where
  pub tag : now.tag ≡ state.tag
  pub rows : rows_now now ≡ seen_in now.schemas state

-- The model is that of a state of the chain.
pub record IsHome (chain : Chain) (schemas : List Schema) : Type 0 where
  pub version : ℕ
  pub state : ChainState
  pub there : HasVersion chain version state
  pub model : state.model ≡ schemas

-- The consumer sees a state of the chain through a model that is that of a state of it too. Nothing is seen of what has one name and two kinds in both models:
-- such a field is null in each row, and there is no row of a type that has two shapes. It keeps indexes of its model, and walk indexes of it and of its rows.
pub record IsIn (chain : Chain) (now : Position) : Type 0 where
  pub version : ℕ
  pub state : ChainState
  pub there : HasVersion chain version state
  pub sees : Sees state now
  pub home : IsHome chain now.schemas
  pub quiet : IsQuiet now.schemas state
  pub indexes : AreIndexes now.schemas now.indexes
  pub walks : AreWalks now.schemas (rows_now now) now.walks

-- There is no state that the consumer has, or it is one of the chain.
abbrev pub IsConsumerOf : Chain → Option Position → Type 0
IsConsumerOf chain consumer = IfSome consumer (IsIn chain)

-- A version, and what is seen of the rows of its state in the chain through this model.
abbrev pub IsOld : Chain → List Schema → ℕ × Table → Type 0
IsOld chain schemas old = (state : ChainState) × HasVersion chain old.0 state × (old.1 ≡ seen_in schemas state)

-- A consumer without a state is at no version. One with a state is at that of the version of the chain to which its last load or step led, and the older
-- states that are kept of it are those of versions of the chain, seen through the same model.
abbrev pub IsReaderAt : Chain → Option Position → Option ℕ → List (ℕ × Table) → Type 0
IsReaderAt chain None version past = version ≡ None
IsReaderAt chain (Some now) version past = (is : IsIn chain now) × (version ≡ Some is.version) × All (IsOld chain now.schemas) past

-- So it is with the consumer of the machine.
abbrev pub IsReaderOf : Chain → Machine → Type 0
IsReaderOf chain machine = IsReaderAt chain machine.consumer machine.version machine.past

-- The models of the states of the chain agree with each other.
abbrev pub ModelsOfChainAgree : Chain → Type 0
ModelsOfChainAgree chain = (u v : ℕ) (a b : ChainState) → HasVersion chain u a → HasVersion chain v b → ModelsAgree a.model b.model

-- So do those of the states of these versions.
abbrev pub ModelsAgreeAmong : Chain → List ℕ → Type 0
ModelsAgreeAmong chain versions =
    (first second : ℕ) (one other : ChainState) → Contains versions first → Contains versions second
    → HasVersion chain first one → HasVersion chain second other → ModelsAgree one.model other.model

-- A consumer that goes to a version arrives: no blob is refused, all are applied, and it sees the state that the chain has under the version.
pub record Arrives (chain : Chain) (version : ℕ) (progress : Progress) (next : Machine) : Type 0 where
  pub refused : progress.refused ≡ None
  pub applied : progress.applied ≡ progress.of
  pub version_is : next.version ≡ Some version
  pub state : ChainState
  pub there : HasVersion chain version state
  pub position : Position
  pub is : next.consumer ≡ Some position
  pub sees : Sees state position
  pub tag : progress.tag ≡ Some state.tag

-- What the store has under the name is a blob that starts at this tag.
abbrev pub StartsAt : Store → BlobName → ℤ → Type 0
StartsAt store name tag = (header : Header) × HasHeader (told (Some store) name) header × (header.origin ≡ tag)

-- What the store has under the name is a delta that agrees with the model.
abbrev pub Agrees : Store → BlobName → List Schema → Type 0
Agrees store name schemas = IsSomeAnd (told (Some store) name) (IsAgreeing schemas)

-- It is a delta whose first type that does not agree with the model has this name.
abbrev pub IsUnlikeAt : Store → BlobName → List Schema → Name → Type 0
IsUnlikeAt store name schemas type_name = IsSomeAnd (told (Some store) name) (λ blob. IsUnlike schemas blob type_name)

-- The machine is the same, but that its consumer, which has the tag of a version of the chain, has the state of that version afresh: its tag, and what is seen of
-- it through the consumer's own model, in whichever layouts and with whichever rows before, whichever version its last load or step led to, and whichever older
-- states are kept of it. It keeps the same indexes and the same walk indexes.
pub record Fresh (chain : Chain) (machine fresh : Machine) : Type 0 where
  pub now : Position
  pub was : machine.consumer ≡ Some now
  pub version : ℕ
  pub state : ChainState
  pub there : HasVersion chain version state
  pub tag : now.tag ≡ state.tag
  pub position : Position
  pub model : position.schemas ≡ now.schemas
  pub sees : Sees state position
  pub indexes : position.indexes ≡ now.indexes
  pub walks : position.walks ≡ now.walks
  pub last : Option ℕ
  pub past : List (ℕ × Table)
  pub is : fresh ≡ record (with_reader machine (Some position) last) { past = past }
