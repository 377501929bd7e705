-- The walk indexes of a consumer: the place that one has among those that are kept, which of them a step keeps, and how many rows have an entry.
use Rattle.std.specs.Prelude.{◌≡◌, ◌≤◌, ◌<◌, ◌⊎◌, ℕ, List, [], ◌∷◌, Some, Contains, length, slice_get}
use Rattle.schema_model.specs.Limit.{number_of_limit}
use Rattle.schema_model.specs.declared.limit.Limit.TheVariants.{Walks}
use Rattle.schema_model.specs.declared.model.walk_path.WalkPath.{WalkPath}
use Rattle.schema_model.specs.declared.schema.Schema.{Schema}
use Rattle.row_model.specs.Reach.{AreWalked}
use Rattle.row_model.specs.Table.{Table}
use Rattle.key_index.specs.Indexed.{CountsLive}
use Rattle.hol_paths.specs.Walked.{HasManyEntries}
use Rattle.hol_paths.specs.declared.fault.WalkFault.{WalkFault}
use Rattle.hol_paths.specs.declared.fault.WalkFault.TheVariants as fault
use Rattle.read_engine.specs.declared.fault.WalkIndexFault.{WalkIndexFault}
use Rattle.read_engine.specs.Indexes.{KeepsOne}
use Rattle.read_engine.specs.Position.{Position, rows_now}

-- These are the elements of a list of which something is so, in their order.
abbrev pub AreThose : {X : Type 0} → (X → Type 0) → List X → List X → Type 0
AreThose P [] those = those ≡ []
AreThose {X} P (x ∷ xs) those = ((rest : List X) × P x × (those ≡ x ∷ rest) × AreThose P xs rest) ⊎ ((¬ P x) × AreThose P xs those)

-- The rows of a state have no more entries along the path than a walk index may have.
abbrev pub HasFewEntries : List Schema → Table → WalkPath → Type 0
HasFewEntries schemas table path = ¬ HasManyEntries schemas table path.type_index path.parts

-- The walk indexes that are kept over a step to some rows: those that were kept before, without those that would have more entries than they may.
abbrev pub KeepsWalks : List Schema → Table → List WalkPath → List WalkPath → Type 0
KeepsWalks schemas table before after = AreThose (HasFewEntries schemas table) before after

-- the position with no walk index
abbrev pub without_walks : Position → Position
without_walks position = record position { walks = [] }

-- The position behind a walk index that is asked for, which has this number in its list; all else is the same.
abbrev pub AddsWalk : WalkPath → Position → Position → ℕ → Type 0
AddsWalk path from to number = KeepsOne (number_of_limit Walks) from.walks path to.walks × (slice_get to.walks number ≡ Some path) × (to ≡ record from { walks = to.walks })

-- There is no room for the walk index: it is not kept, and as many others are as can be.
abbrev pub HasNoWalkRoom : Position → WalkPath → Type 0
HasNoWalkRoom position path = (¬ Contains position.walks path) × (number_of_limit Walks ≤ length position.walks)

-- The walk index is not kept, there is room for it, and it would have more entries than it may.
abbrev pub PassesEntries : Position → WalkPath → Type 0
PassesEntries position path =
    (¬ Contains position.walks path) × (length position.walks < number_of_limit Walks) × HasManyEntries position.schemas (rows_now position) path.type_index path.parts

-- A count of steps rose by one for each live row of the type where the walk index is new, and by none where it is kept already.
abbrev pub CountsWalkAdded : Position → WalkPath → ℕ → ℕ → Type 0
CountsWalkAdded from path before after =
    (Contains from.walks path × (after ≡ before)) ⊎ ((¬ Contains from.walks path) × CountsLive (rows_now from) path.type_index before after)

-- So many live rows reach a value along the path.
abbrev pub CountsWalked : Position → WalkPath → ℕ → Type 0
CountsWalked position path count =
    (ordinals : List ℕ) × AreWalked position.schemas (rows_now position) path.type_index path.parts ordinals × (count ≡ length ordinals)

-- What an index that is not made answers of a walk index that is not made.
abbrev pub of_walk : WalkFault → WalkIndexFault
of_walk fault.Entries = WalkIndexFault.Entries
of_walk fault.Memory = WalkIndexFault.Memory

-- What a request for a walk index may be answered at any time: memory was refused.
abbrev pub IsFreeWalk : WalkIndexFault → Type 0
IsFreeWalk WalkIndexFault.Memory = Unit {0}
IsFreeWalk _ = ⊥
