-- How the parts of a patch move the types of a state: each named type has its new rows in the half that comes next, and of what it had is kept
-- what the patch changes. Which types are named is told by a list beside the states, one truth value for each type, as long as the step lasts.
use Rattle.std.specs.Prelude.{◌≡◌, ◌<◌, ◌-◌, ◌^◌, ℕ, Bool, List, [], ◌∷◌, Some, false, true, if◌then◌else◌, All, length, map, slice_get}
use Rattle.std.specs.List.{AllZip}
use Rattle.std.specs.FinMap.{get}
use Rattle.schema_model.specs.declared.schema.Schema.{Schema}
use Rattle.row_model.specs.Table.{RowMap, IsClosed, IsTableOf}
use Rattle.type_rows.specs.declared.patch.PatchSection.{PatchSection}
use Rattle.type_rows.specs.Patches.{IsMovedBy, IsReadablePatch, IsWellFormedPatch, patch_layout}
use Rattle.type_state.specs.State.{Half, State, IsLaidOut}
use Rattle.type_state.specs.Views.{table_of}
use Rattle.delta_blob.specs.declared.patch.PatchPart.{PatchPart}
use Rattle.blob_faults.specs.Judge.{Judge, each_of}
use Rattle.state_moves.specs.Halves.{current_halves}
use Rattle.state_moves.specs.Judged.{moved_table, part_moves}
use Rattle.row_model.specs.Before.{FitsPast, PastPart, no_part, table_before}

-- the half that comes: the next one of a type that the step names, else the current one
abbrev pub coming_half : State → Bool → Half
coming_half state is_named = (if is_named then state.other else state.current)

-- the same of each type
unfoldable pub coming_halves : List State → List Bool → List Half
coming_halves (state ∷ states) (is_named ∷ named) = coming_half state is_named ∷ coming_halves states named
coming_halves _ _ = []

-- the type behind the step: with the half that comes as its current one
abbrev pub coming_state : State → Bool → State
coming_state state is_named = (if is_named then record { schema = state.schema; current = state.other; other = state.current } else state)

-- The half that comes is laid out, where it is the next one.
abbrev pub IsComingLaid : State → Bool → Type 0
IsComingLaid state is_named = is_named ≡ true → IsLaidOut state.schema state.other

-- The states are those of the model, and the halves that come are laid out and fit it.
pub record AreComing (schemas : List Schema) (states : List State) (named : List Bool) : Type 0 where
  pub of_model : map (λ state. state.schema) states ≡ schemas
  pub laid : AllZip IsComingLaid states named
  pub fits : IsTableOf schemas (table_of (coming_halves states named))

-- What is kept of a type: the ordinals of its patch, and the row of each that leaves.
pub record KeepsPatch (now : RowMap) (section : PatchSection) (part : PastPart) : Type 0 where
  pub came : part.came ≡ section.added
  pub gone : part.gone ≡ section.removed
  pub small : All (λ ordinal. ordinal < 2 ^ 32 - 1) part.gone
  pub rows : AllZip (λ ordinal row. get now ordinal ≡ Some row) part.gone part.rows

-- The section moved the current rows of a type to its next ones, and this is kept of it.
pub record MovesState (section : PatchSection) (state : State) (part : PastPart) : Type 0 where
  pub well : IsWellFormedPatch state.schema.shape section
  pub moved : IsMovedBy state.schema.shape section state.current.rows state.other.rows
  pub layout : state.other.layout ≡ patch_layout section
  pub laid : IsLaidOut state.schema state.other
  pub keeps : KeepsPatch state.current.rows section part

-- Of these parts one moved the type at the index, which is named, or none names it and nothing is kept of it.
pub data TypeIs (parts : List PatchPart) (type_index : ℕ) (state : State) (is_named : Bool) (part : PastPart) : Type 0 where
  Unnamed : is_named ≡ false → part ≡ no_part → All (λ named. named.type_index ≡ type_index → ⊥) parts → TypeIs parts type_index state is_named part
  Named : is_named ≡ true → (place : ℕ) (named : PatchPart) → slice_get parts place ≡ Some named → named.type_index ≡ type_index → MovesState named.section state part → TypeIs parts type_index state is_named part

-- The parts moved the types.
pub record AreMoved (parts : List PatchPart) (states : List State) (named : List Bool) (past : List PastPart) : Type 0 where
  pub named_long : length named ≡ length states
  pub past_long : length past ≡ length states
  pub types : (type_index : ℕ) (state : State) (is_named : Bool) (part : PastPart) → slice_get states type_index ≡ Some state → slice_get named type_index ≡ Some is_named → slice_get past type_index ≡ Some part
      → TypeIs parts type_index state is_named part

-- The section of a part can be read as one of its type.
abbrev pub IsReadableIn : List State → PatchPart → Type 0
IsReadableIn states part = (state : State) × (slice_get states part.type_index ≡ Some state) × IsReadablePatch state.schema.shape part.section

-- The schemas and the current halves stay.
pub record StaysCurrent (old new : List State) : Type 0 where
  pub schemas : map (λ state. state.schema) new ≡ map (λ state. state.schema) old
  pub halves : current_halves new ≡ current_halves old

-- What is tried of each part: that it moves the current rows of its type.
abbrev pub parts_move : List State → List PatchPart → Judge (List RowMap)
parts_move states parts = each_of (part_moves (map (λ state. state.schema) states) (table_of (current_halves states))) parts

-- The parts pass, and the rows that come are the current ones with those that the parts lead to.
pub record ComesOf (parts : List PatchPart) (before states : List State) (named : List Bool) : Type 0 where
  pub rows : List RowMap
  pub passes : (parts_move before parts).Passes rows
  pub comes : table_of (coming_halves states named) ≡ moved_table (table_of (current_halves before)) parts rows

-- The parts moved the types into their next halves: the rows that come fit the model and are closed, and what is kept of each type fits them and
-- gives the rows before.
pub record MovesParts (schemas : List Schema) (parts : List PatchPart) (before states : List State) (named : List Bool) (past : List PastPart) : Type 0 where
  pub moved : AreMoved parts states named past
  pub stays : StaysCurrent before states
  pub coming : AreComing schemas states named
  pub closed : IsClosed schemas (table_of (coming_halves states named))
  pub fits : AllZip FitsPast (table_of (coming_halves states named)) past
  pub was : table_before (table_of (coming_halves states named)) past ≡ table_of (current_halves before)
