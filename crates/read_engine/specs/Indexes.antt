-- The indexes of a consumer: the one of a type by some paths, the place that it has among those that are kept, and what came into their types.
use Rattle.std.specs.Prelude.{◌≡◌, ◌↔◌, ◌≤◌, ◌<◌, ◌+◌, ◌⊎◌, ℕ, List, [], ◌∷◌, ◌++◌, Some, Contains, length, map, slice_get}
use Rattle.schema_model.specs.declared.limit.Limit.TheVariants.{Indexes}
use Rattle.schema_model.specs.declared.model.path.Path.{Path}
use Rattle.schema_model.specs.declared.model.walk_path.WalkPath.{WalkPath}
use Rattle.row_model.specs.Key.{AreKeyed}
use Rattle.schema_model.specs.Limit.{number_of_limit}
use Rattle.row_model.specs.Row.{Rises}
use Rattle.row_model.specs.Table.{IsLive}
use Rattle.key_index.specs.Indexed.{CountsLive}
use Rattle.read_engine.specs.Position.{Index, Position, rows_now}

-- the index of a type by these paths
abbrev pub index_by : ℕ → List Path → Index
index_by type_index paths = record { type_index = type_index; paths = paths }

-- A list behind an element that is asked for: the same where that one is in it, and else with it behind the others, where there are fewer than so many.
abbrev pub KeepsOne : {X : Type 0} → ℕ → List X → X → List X → Type 0
KeepsOne most kept one after = (Contains kept one × (after ≡ kept)) ⊎ ((¬ Contains kept one) × (length kept < most) × (after ≡ kept ++ one ∷ []))

-- The list of indexes behind one that is asked for.
abbrev pub KeepsIndex : List Index → Index → List Index → Type 0
KeepsIndex indexes index after = KeepsOne (number_of_limit Indexes) indexes index after

-- The position behind an index that is asked for, which has this number in its list; all else is the same.
abbrev pub AddsIndex : Index → Position → Position → ℕ → Type 0
AddsIndex index from to number =
    KeepsIndex from.indexes index to.indexes × (slice_get to.indexes number ≡ Some index) × (to ≡ record from { indexes = to.indexes })

-- There is no room for the index: it is not kept, and as many others are as can be.
abbrev pub HasNoRoom : Position → Index → Type 0
HasNoRoom position index = (¬ Contains position.indexes index) × (number_of_limit Indexes ≤ length position.indexes)

-- A count of steps rose by one for each live row of the type where the index is new, and by none where it is kept already.
abbrev pub CountsAdded : Position → Index → ℕ → ℕ → Type 0
CountsAdded from index before after =
    (Contains from.indexes index × (after ≡ before)) ⊎ ((¬ Contains from.indexes index) × CountsLive (rows_now from) index.type_index before after)

-- So many live rows have a key of the index.
abbrev pub CountsKeyed : Position → Index → ℕ → Type 0
CountsKeyed position index count = (ordinals : List ℕ) × AreKeyed position.schemas (rows_now position) index.type_index index.paths ordinals × (count ≡ length ordinals)

-- These are the ordinals of a type that are live in the state and were not in the state before, rising.
pub record AreNew (position : Position) (type_index : ℕ) (ordinals : List ℕ) : Type 0 where
  pub rising : Rises ordinals
  pub are : (ordinal : ℕ) → Contains ordinals ordinal ↔ (IsLive (rows_now position) type_index ordinal × ¬ IsLive position.before type_index ordinal)

-- the types of the indexes and of the walk indexes that are kept
abbrev pub types_kept : Position → List ℕ
types_kept position = map (λ (index : Index). index.type_index) position.indexes ++ map (λ (path : WalkPath). path.type_index) position.walks

-- So many ordinals are new in some types, summed over these.
abbrev pub CountsNew : Position → List ℕ → ℕ → Type 0
CountsNew position [] count = count ≡ 0
CountsNew position (t ∷ rest) count = (ordinals : List ℕ) × (behind : ℕ) × AreNew position t ordinals × CountsNew position rest behind × (count ≡ length ordinals + behind)

-- A count of steps rose by one for each new ordinal in the type of each index and of each walk index that is kept behind the step, and by at most so many
-- in the type of each walk index that was dropped: no more than in the types of all that were kept before the step.
abbrev pub CountsStep : Position → Position → ℕ → ℕ → Type 0
CountsStep from to before after =
    (least : ℕ) × (most : ℕ) × CountsNew to (types_kept to) least × CountsNew to (types_kept from) most × (before + least ≤ after) × (after ≤ before + most)

-- It rose by at most one for each new ordinal in the type of each that was kept before the step.
abbrev pub CountsAtMost : Position → Position → ℕ → ℕ → Type 0
CountsAtMost from to before after = (most : ℕ) × CountsNew to (types_kept from) most × (before ≤ after) × (after ≤ before + most)
