-- What a step takes: the parts of a patch that move the types of a state, where they lead, and what is counted of them.
use Rattle.std.specs.Prelude.{All, ◌≡◌, ◌≤◌, ◌+◌, ℕ, ℤ, Bool, List, Option, Result, Ok, Err, IsSomeAnd, map}
use Rattle.schema_model.specs.declared.model.walk_path.WalkPath.{WalkPath}
use Rattle.schema_model.specs.declared.schema.Schema.{Schema}
use Rattle.type_state.specs.State.{State}
use Rattle.type_state.specs.Views.{table_of}
use Rattle.row_model.specs.Table.{Table}
use Rattle.blob_frame.specs.declared.fault.BlobFault.{BlobFault}
use Rattle.blob_faults.specs.Judge.{Blames}
use Rattle.delta_blob.specs.declared.patch.PatchPart.{PatchPart}
use Rattle.key_index.specs.Indexed.{Indexed}
use Rattle.hol_paths.specs.Walked.{Walked}
use Rattle.state_moves.specs.Halves.{current_halves}
use Rattle.state_moves.specs.Judged.{IsFreeMove, state_moved}
use Rattle.state_moves.specs.Moving.{MovesParts, coming_halves}
use Rattle.row_model.specs.Before.{PastPart}
use Rattle.read_engine.specs.Indexes.{CountsAtMost}
use Rattle.read_engine.specs.Kept.{IsWalkKept, came_all, paths_of}
use Rattle.read_engine.specs.Position.{Position, rows_now}
use Rattle.read_engine.specs.Walks.{KeepsWalks, without_walks}

-- The parts moved the types into their next halves, and their halves are the current ones now.
pub record TakesParts (schemas : List Schema) (parts : List PatchPart) (before after : List State) (past : List PastPart) : Type 0 where
  pub mid : List State
  pub named : List Bool
  pub moves : MovesParts schemas parts before mid named past
  pub halves : current_halves after ≡ coming_halves mid named
  pub same : map (λ state. state.schema) after ≡ map (λ state. state.schema) before

-- The walk indexes behind a step are those of the rows that came, and of those before the ones that may be kept there.
pub record TakesWalks (schemas : List Schema) (table : Table) (before after : List Walked) : Type 0 where
  pub kept : All (IsWalkKept schemas table) after
  pub keeps : KeepsWalks schemas table (paths_of before) (paths_of after)

-- The states are those of a position.
pub record AreAt (from : Position) (states : List State) : Type 0 where
  pub schemas : map (λ state. state.schema) states ≡ from.schemas
  pub halves : current_halves states ≡ from.halves

-- The parts lead from one position to the other, with this tag.
pub record IsTaken (tag : ℤ) (parts : List PatchPart) (from to : Position) : Type 0 where
  pub before : List State
  pub mid : List State
  pub named : List Bool
  pub past : List PastPart
  pub at : AreAt from before
  pub moves : MovesParts from.schemas parts before mid named past
  pub walks : List WalkPath
  pub keeps : KeepsWalks from.schemas (table_of (coming_halves mid named)) from.walks walks
  pub is : to ≡ record { tag = tag; schemas = from.schemas; halves = coming_halves mid named; before = rows_now from; indexes = from.indexes; walks = walks }

-- The parts, which stand in a blob of this length, do not move the rows of a position: they have this fault, or memory was refused.
abbrev pub BlamesParts : ℕ → List PatchPart → BlobFault → Position → Type 0
BlamesParts size parts found from = Blames (state_moved from.schemas parts size (rows_now from)) IsFreeMove found

-- What each answer tells, of where the consumer stands then.
abbrev pub TellsTaken : ℕ → ℤ → List PatchPart → Position → Option Position → Result (Unit {0}) BlobFault → Type 0
TellsTaken size tag parts from now (Ok done) = IsSomeAnd now (IsTaken tag parts from)
TellsTaken size tag parts from now (Err found) = BlamesParts size parts found from

-- The parts move the types, and a count of steps rose by at most the ordinals that come in the type of each index and walk index.
pub record ReadsSome (schemas : List Schema) (parts : List PatchPart) (states : List State) (indexes : List Indexed) (walks : List Walked) (before after : ℕ) : Type 0 where
  pub mid : List State
  pub named : List Bool
  pub past : List PastPart
  pub moves : MovesParts schemas parts states mid named past
  pub later : before ≤ after
  pub most : after ≤ before + came_all past indexes walks

-- The parts lead to a position, and a count of steps rose by at most what the step there counts.
abbrev pub CountsTaken : ℤ → List PatchPart → Position → ℕ → ℕ → Type 0
CountsTaken tag parts from before after = (to : Position) × IsTaken tag parts (without_walks from) to × CountsAtMost from to before after
