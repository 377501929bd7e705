-- The indexes of rows by their primary keys, kept from one state to the next.
use Rattle.std.specs.Prelude.{List, ℕ, ◌≡◌, ◌+◌, ◌↔◌, ◌⊎◌, Contains, IsSome, IsSomeAnd, Option, Some, None, length, slice_get}
use Rattle.std.specs.Option.{option_map, unwrap_or}
use Rattle.schema_model.specs.declared.schema.Schema.{Schema}
use Rattle.row_model.specs.Row.{Rises}
use Rattle.row_model.specs.Table.{Table, IsLive}
use Rattle.key_index.specs.Indexed.{AreKeysOf, CountsLive, Indexed}
use Rattle.hol_incremental.specs.Roots.{IsKeyed}

-- an index without what it is ready for
abbrev pub settled : Option Indexed → Option Indexed
settled index = option_map (λ (kept : Indexed). record kept { next = None }) index

-- an index once it is updated
abbrev pub moved : Option Indexed → Option Indexed
moved index = option_map (λ (kept : Indexed). record kept { keys = unwrap_or kept.next kept.keys; next = None }) index

-- an index, where there is one, is ready for something
abbrev pub IsReserved : Option Indexed → Type 0
IsReserved None = Unit {0}
IsReserved (Some index) = IsSome index.next

-- the keys of the rows of the next state are ready, where there is an index
abbrev pub IsReadyIndex : List Schema → Table → Option Indexed → Type 0
IsReadyIndex schemas next None = Unit {0}
IsReadyIndex schemas next (Some index) = IsSomeAnd index.next (AreKeysOf schemas next index.type_index index.paths)

-- those of all indexes are
abbrev pub AreReadyKeys : List Schema → Table → List (Option Indexed) → Type 0
AreReadyKeys schemas next keys = (t : ℕ) (index : Option Indexed) → slice_get keys t ≡ Some index → IsReadyIndex schemas next index

-- the ordinals under which a type has rows in one state and none in another, rising
pub record AreLacking (table other : Table) (type_index : ℕ) (ordinals : List ℕ) : Type 0 where
  pub rising : Rises ordinals
  pub are : (ordinal : ℕ) → Contains ordinals ordinal ↔ (IsLive table type_index ordinal × ¬ IsLive other type_index ordinal)

-- a count rose by the number of the live rows of a type, if it has a primary key
abbrev pub CountsKeyed : List Schema → Table → ℕ → ℕ → ℕ → Type 0
CountsKeyed schemas table t before after = (IsKeyed schemas t × CountsLive table t before after) ⊎ ((¬ IsKeyed schemas t) × (after ≡ before))

-- a count rose by the number of the rows of a type that the next state has and the one before it lacks
abbrev pub CountsLacking : Table → Table → ℕ → ℕ → ℕ → Type 0
CountsLacking before next t start steps = (added : List ℕ) × AreLacking next before t added × (steps ≡ start + length added)

-- the same of a type, if it has a primary key
abbrev pub CountsComing : List Schema → Table → Table → ℕ → ℕ → ℕ → Type 0
CountsComing schemas before next t start steps = (IsKeyed schemas t × CountsLacking before next t start steps) ⊎ ((¬ IsKeyed schemas t) × (steps ≡ start))
