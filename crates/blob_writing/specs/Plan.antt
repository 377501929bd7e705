-- What is gathered once of two states of one model, for all blobs between them: what is chosen for each type, what is live in each state, and which
-- types change.
use Rattle.std.specs.Prelude.{◌≡◌, ◌<◌, ℕ, List, length}
use Rattle.std.specs.FinMap.{keys}
use Rattle.std.specs.List.{AllZip, range_with_len}
use Rattle.schema_model.specs.declared.schema.Schema.{Schema}
use Rattle.row_model.specs.Table.{Table}
use Rattle.row_model.specs.BothStates.{rows_in}
use Rattle.row_packing.specs.Chosen.{shape_at, IsChosen}
use Rattle.row_packing.specs.Places.{Agree}
use Rattle.blob_writing.specs.Changes.{AreChanged, gone}
use Rattle.blob_writing.specs.declared.plan.Live.{Live}
use Rattle.blob_writing.specs.declared.plan.Plan.{Plan}

-- There is one thing for each of so many types, in model order, and this is so of each type and its thing.
abbrev pub AreByType : {X : Type 0} → ℕ → (ℕ → X → Type 0) → List X → Type 0
AreByType count Is things = AllZip Is (range_with_len 0 count) things

-- The sets are the ordinals under which the types have rows.
abbrev pub AreLiveIn : Table → ℕ → List (List ℕ) → Type 0
AreLiveIn table count sets = AreByType count (λ type_index set. set ≡ keys (rows_in table type_index)) sets

-- The lists are the ordinals of the types that one state has and the other one lacks.
abbrev pub AreGone : Table → Table → ℕ → List (List ℕ) → Type 0
AreGone from to count lists = AreByType count (λ type_index list. list ≡ gone from to type_index) lists

-- What is live in a state, beside another one.
pub record IsLiveBeside (table other : Table) (count : ℕ) (live : Live) : Type 0 where
  pub ordinals : AreLiveIn table count live.ordinals
  pub alone : AreGone table other count live.alone

-- The lists are those of two states that agree: what goes, and what comes.
pub record AreMoved (old new : Table) (count : ℕ) (removed added : List (List ℕ)) : Type 0 where
  pub agree : (type_index : ℕ) → type_index < count → Agree old new type_index
  pub goes : AreGone old new count removed
  pub comes : AreGone new old count added

-- The plan is that of an old and a new state.
pub record IsPlanOf (schemas : List Schema) (old new : Table) (plan : Plan) : Type 0 where
  pub chosen : AreByType (length schemas) (λ type_index. IsChosen (shape_at schemas type_index) old new type_index) plan.chosen
  pub before : IsLiveBeside old new (length schemas) plan.before
  pub after : IsLiveBeside new old (length schemas) plan.after
  pub changed : AreChanged (length schemas) old new plan.changed
