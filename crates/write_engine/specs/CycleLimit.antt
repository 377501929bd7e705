-- The limit that a closed cycle passes: that of the first type that passes one, over the previous state and the next.
use Rattle.std.specs.Prelude.{List, [], ℕ, ◌<◌, ◌≡◌, ◌≢◌, ◌⊎◌, Option, Some, None, length}
use Rattle.schema_model.specs.declared.limit.Limit.{Limit}
use Rattle.schema_model.specs.declared.schema.Schema.{Schema}
use Rattle.row_model.specs.Table.{Table}
use Rattle.row_packing.specs.Chosen.{shape_at}
use Rattle.row_packing.specs.TypeLimit.{TellsLimit}

-- The first limit that a type passes, in model order; none where each type keeps all.
abbrev pub TellsTypes : List Schema → Table → Table → Option Limit → Type 0
TellsTypes schemas previous current None = (type_index : ℕ) → type_index < length schemas → TellsLimit (shape_at schemas type_index) previous current type_index None
TellsTypes schemas previous current (Some limit) =
    (type_index : ℕ) × (type_index < length schemas) × ((earlier : ℕ) → earlier < type_index → TellsLimit (shape_at schemas earlier) previous current earlier None)
    × TellsLimit (shape_at schemas type_index) previous current type_index (Some limit)

-- A state of these changed types is to be published: it is the first one, or it changes a type. (the last version, the changed types)
abbrev pub IsToPublish : ℕ → List ℕ → Type 0
IsToPublish version changed = (version ≡ 0) ⊎ (changed ≢ [])

-- What a closed cycle passes: no limit where it is not the first and changes nothing, and else the first limit that a type passes.
-- (schemas, previous, current, version, the changed types, the limit)
abbrev pub TellsCycle : List Schema → Table → Table → ℕ → List ℕ → Option Limit → Type 0
TellsCycle schemas previous current version changed limit =
    ((version ≢ 0) × (changed ≡ []) × (limit ≡ None)) ⊎ (((version ≡ 0) ⊎ (changed ≢ [])) × TellsTypes schemas previous current limit)
