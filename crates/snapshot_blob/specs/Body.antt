-- What each answer of the reader of a body tells: of the types of a snapshot, from a place behind the header up to the
-- end of the blob.
use Rattle.std.specs.Prelude.{◌≡◌, ◌<◌, ◌⊎◌, ℕ, List, Some, Result, Ok, Err, length, All, IsErrAnd}
use Rattle.schema_model.specs.declared.limit.Limit.TheVariants.{Ordinals}
use Rattle.schema_model.specs.declared.schema.Schema.{Schema}
use Rattle.schema_model.specs.Limit.{number_of_limit}
use Rattle.row_model.specs.declared.row.Row.{Row}
use Rattle.row_model.specs.Row.{stored_row}
use Rattle.row_model.specs.Table.{IsClosed, IsLive, row_at}
use Rattle.type_state.specs.State.{Half, empty_half}
use Rattle.type_state.specs.Views.{AreNext, next_halves, table_of}
use Rattle.blob_frame.specs.declared.fault.BlobFault.{BlobFault}
use Rattle.blob_frame.specs.declared.fault.BlobFault.TheVariants as fault
use Rattle.blob_cursor.specs.Scene.{IsFree}
use Rattle.blob_faults.specs.Judge.{Blames}
use Rattle.snapshot_blob.specs.declared.body.Body.{Body}
use Rattle.snapshot_blob.specs.declared.part.TypePart.{TypePart}
use Rattle.snapshot_blob.specs.Judged.{body_of}
use Rattle.snapshot_blob.specs.Parts.{body}
use Rattle.snapshot_blob.specs.Stated.{AreAccepted, IsTypeLimit}

-- From this place on types stand up to the end of the blob, and they are those of this state within the limits.
abbrev pub IsBody : List ℕ → ℕ → List Schema → List Half → Type 0
IsBody blob at schemas halves = (parts : List TypePart) × body.Stands blob at parts (length blob) × AreAccepted parts schemas halves

-- What each answer tells of the blob: the body that is there, or the fault of the first trial that fails.
abbrev pub TellsBody : List ℕ → ℕ → Result Body BlobFault → Type 0
TellsBody blob at (Ok found) = IsBody blob at found.model (next_halves found.states)
TellsBody blob at (Err refused) = Blames (body_of blob at) IsFree refused

-- The answer is a body exactly where one is there within the limits, and a fault exactly where it is that of the first
-- trial that fails, but for the free answers.
pub record ReadsBody (blob : List ℕ) (at : ℕ) (answer : Result Body BlobFault) : Type 0 where
  pub found : (schemas : List Schema) (halves : List Half) → IsBody blob at schemas halves
      → ((found : Body) × (answer ≡ Ok found) × (found.model ≡ schemas) × (next_halves found.states ≡ halves)) ⊎ IsErrAnd answer IsFree
  pub fails : (first : BlobFault) → (body_of blob at).Fails first → (answer ≡ Err first) ⊎ IsErrAnd answer IsFree

-- The faults of a body.
abbrev pub IsBodyFault : BlobFault → Type 0
IsBodyFault (fault.Bad place why) = Unit {0}
IsBodyFault (fault.BadRow place why of ordinal) = Unit {0}
IsBodyFault (fault.Large limit) = IsTypeLimit limit
IsBodyFault fault.Store = Unit {0}
IsBodyFault fault.Memory = Unit {0}
IsBodyFault _ = ⊥

-- What was read, wherever it came from: an empty current half for each type of the model, and a next half, laid out,
-- with rows that fit the types, stand under ordinals within the limit, name live ordinals alone, and hold no least INT and
-- no least LONG.
pub record IsWholeBody (found : Body) : Type 0 where
  pub next : AreNext found.model found.states
  pub closed : IsClosed found.model (table_of (next_halves found.states))
  pub low : (type_index ordinal : ℕ) → IsLive (table_of (next_halves found.states)) type_index ordinal → ordinal < number_of_limit Ordinals
  pub stored : (type_index ordinal : ℕ) (row : Row) → row_at (table_of (next_halves found.states)) type_index ordinal ≡ Some row → stored_row row ≡ row
  pub current : All (λ state. state.current ≡ empty_half) found.states
