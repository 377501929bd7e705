-- What a consumer takes: a snapshot that it loads, and a delta that starts at its tag and fits its rows; and what is told of a blob that it
-- does not take.
use Rattle.std.specs.Prelude.{◌≡◌, ◌≢◌, ◌≤◌, ◌<◌, ◌⊎◌, ℕ, ℤ, List, [], Option, Some, None, Result, Ok, Err, IsErrAnd, length, slice_get}
use Rattle.std.specs.Option.{option_map}
use Rattle.hol_io.specs.declared.name.BlobName.{BlobName}
use Rattle.schema_model.specs.declared.limit.Limit.TheVariants.{Blob}
use Rattle.schema_model.specs.Limit.{number_of_limit}
use Rattle.type_rows.specs.Layout.{Layout}
use Rattle.type_state.specs.State.{Half}
use Rattle.type_state.specs.Views.{next_halves, table_of}
use Rattle.blob_frame.specs.declared.fault.BlobFault.{BlobFault}
use Rattle.blob_frame.specs.declared.fault.BlobFault.TheVariants as fault
use Rattle.blob_frame.specs.declared.header.Header.{Header}
use Rattle.blob_cursor.specs.Scene.{IsFree}
use Rattle.snapshot_blob.specs.declared.body.Body.{Body}
use Rattle.snapshot_blob.specs.Snapshot.{IsAccepted}
use Rattle.snapshot_blob.specs.Stated.{IsTypeLimit}
use Rattle.delta_blob.specs.Fits.{Fits}
use Rattle.delta_blob.specs.Moved.{EachNamed, IsUnnamed, Moved}
use Rattle.delta_blob.specs.Patch.{TypePatch, DeltaIs}
use Rattle.delta_blob.specs.Within.{KeepItems, Within}
use Rattle.read_engine.specs.Indexes.{CountsAtMost}
use Rattle.read_engine.specs.Judged.{RefusesLoad, RefusesStep}
use Rattle.read_engine.specs.Position.{Position, rows_now}
use Rattle.read_engine.specs.Walks.{KeepsWalks, without_walks}

-- The blob is a snapshot within the limits, and this is where a consumer stands that loads it: at the destination of its header, with its model,
-- layouts and rows, the same rows before, no index and no walk index.
abbrev pub LoadsFrom : List ℕ → Position → Type 0
LoadsFrom blob position =
    (head : Header) × IsAccepted blob head position.schemas position.halves × (position.tag ≡ head.destination) × (position.before ≡ rows_now position)
    × (position.indexes ≡ []) × (position.walks ≡ [])

-- the layout of a type
abbrev pub layout_at : List Half → ℕ → Option Layout
layout_at halves type_index = option_map (λ half. half.layout) (slice_get halves type_index)

-- Against the consumer's model the blob is a delta from its tag, of a patch that fits its rows and passes no limit, and it leads to this position:
-- with the tag of the delta's destination, the rows that the patch moves to, the layouts of the patch in the types that it names, the rows
-- before, the same indexes, and of the walk indexes those that have no more entries there than they may.
pub record StepsBy (blob : List ℕ) (from to : Position) : Type 0 where
  pub patch : List TypePatch
  pub is : DeltaIs from.schemas blob from.tag to.tag patch
  pub fits : Fits from.schemas (rows_now from) patch
  pub moved : Moved patch (rows_now from) (rows_now to)
  pub within : Within (rows_now to) patch
  pub items : KeepItems from.schemas is.parts
  pub short : length blob ≤ number_of_limit Blob
  pub model : to.schemas ≡ from.schemas
  pub types : length to.halves ≡ length from.halves
  pub layouts : EachNamed patch (λ type_index named. layout_at to.halves type_index ≡ Some named.layout)
  pub others : (type_index : ℕ) → type_index < length from.schemas → IsUnnamed patch type_index → layout_at to.halves type_index ≡ layout_at from.halves type_index
  pub before : to.before ≡ rows_now from
  pub indexes : to.indexes ≡ from.indexes
  pub walks : KeepsWalks from.schemas (rows_now to) from.walks to.walks

-- What is so behind every step, wherever its blob came from: the model and the indexes stay, the rows before are those that the consumer had, and of the walk
-- indexes those are kept that have no more entries in the rows now than they may.
pub record FollowsFrom (from to : Position) : Type 0 where
  pub model : to.schemas ≡ from.schemas
  pub before : to.before ≡ rows_now from
  pub indexes : to.indexes ≡ from.indexes
  pub walks : KeepsWalks from.schemas (rows_now to) from.walks to.walks

-- What each answer to a load tells of what the name holds, by the position behind it.
abbrev pub TellsLoad : BlobName → Option (List ℕ) → Option Position → Result (Unit {0}) BlobFault → Type 0
TellsLoad name content now (Ok done) = (blob : List ℕ) × (position : Position) × (content ≡ Some blob) × (now ≡ Some position) × LoadsFrom blob position
TellsLoad name content now (Err found) = RefusesLoad name content found ⊎ IsFree found

-- A load answers each of these exactly where it holds, but for the free answers: that it is done, and the fault of what the name holds.
pub record LoadsExactly (name : BlobName) (content : Option (List ℕ)) (now : Option Position) (answer : Result (Unit {0}) BlobFault) : Type 0 where
  pub found : (blob : List ℕ) (position : Position) → content ≡ Some blob → LoadsFrom blob position
      → ((answer ≡ Ok tt) × (now ≡ Some position)) ⊎ IsErrAnd answer IsFree
  pub fails : (found : BlobFault) → RefusesLoad name content found → (answer ≡ Err found) ⊎ IsErrAnd answer IsFree

-- where a consumer stands that loads a body, with this tag
abbrev pub loaded_position : ℤ → Body → Position
loaded_position tag body = record { tag = tag; schemas = body.model; halves = next_halves body.states; before = table_of (next_halves body.states); indexes = []; walks = [] }

-- What the answer to a load that makes a consumer tells of what the name holds, by where that consumer stands.
abbrev pub TellsLoaded : BlobName → Option (List ℕ) → Result (Option Position) BlobFault → Type 0
TellsLoaded name content (Ok now) = TellsLoad name content now (Ok tt)
TellsLoaded name content (Err found) = TellsLoad name content None (Err found)

-- What each answer to a step tells of what the name holds, by the position before it and the one behind it.
abbrev pub TellsStep : BlobName → Option (List ℕ) → Position → Option Position → Result (Unit {0}) BlobFault → Type 0
TellsStep name content from now (Ok done) = (blob : List ℕ) × (to : Position) × (content ≡ Some blob) × (now ≡ Some to) × StepsBy blob from to
TellsStep name content from now (Err found) = RefusesStep name content from found ⊎ IsFree found

-- A step answers each of these exactly where it holds, but for the free answers: that it is done, and the fault of what the name holds.
pub record StepsExactly (name : BlobName) (content : Option (List ℕ)) (from : Position) (now : Option Position) (answer : Result (Unit {0}) BlobFault) : Type 0 where
  pub found : (blob : List ℕ) (to : Position) → content ≡ Some blob → StepsBy blob from to → ((answer ≡ Ok tt) × (now ≡ Some to)) ⊎ IsErrAnd answer IsFree
  pub fails : (found : BlobFault) → RefusesStep name content from found → (answer ≡ Err found) ⊎ IsErrAnd answer IsFree

-- The faults of a step along the blob of this name, from this tag.
abbrev pub IsStepFault : BlobName → ℤ → BlobFault → Type 0
IsStepFault name current (fault.NoBlob other) = other ≡ name
IsStepFault name current (fault.Large limit) = (limit ≡ Blob) ⊎ IsTypeLimit limit
IsStepFault name current (fault.OtherOrigin found at) = (at ≡ current) × (found ≢ current)
IsStepFault name current _ = Unit {0}

-- The name holds a blob that moves the rows of a position, and a count of steps rose by at most the ordinals that are new there in the type of each index and of
-- each walk index. Which walk indexes would be kept there is not told.
abbrev pub CountsPart : Option (List ℕ) → Position → ℕ → ℕ → Type 0
CountsPart content from before after =
    (blob : List ℕ) × (to : Position) × (content ≡ Some blob) × StepsBy blob (without_walks from) to × CountsAtMost from to before after
