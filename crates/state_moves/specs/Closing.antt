-- Where the rows that come in a step have to be tried for closedness.
use Rattle.std.specs.Prelude.{◌≡◌, ℕ, List, [], All, IfSome, slice_get}
use Rattle.schema_model.specs.declared.schema.name.Name.{Name}
use Rattle.schema_model.specs.declared.schema.Schema.{Schema}
use Rattle.schema_model.specs.declared.schema.Shape.{Shape}
use Rattle.closed_rows.specs.Dangling.{IsClosedAt}
use Rattle.schema_model.specs.Parts.{index_of_type, shape_names}
use Rattle.row_model.specs.Table.{Table}
use Rattle.row_model.specs.Before.{PastPart}

-- Each row of the type names live ordinals alone.
abbrev pub IsTypeClosed : List Schema → Table → ℕ → Type 0
IsTypeClosed schemas table type_index = (ordinal : ℕ) → IsClosedAt schemas table type_index ordinal

-- No row left in the type at this index.
abbrev pub HasKept : List PastPart → ℕ → Type 0
HasKept past type_index = IfSome (slice_get past type_index) (λ part. part.gone ≡ [])

-- No row left in the type of this name.
abbrev pub KeepsNamed : List Schema → List PastPart → Name → Type 0
KeepsNamed schemas past name = IfSome (index_of_type schemas name) (HasKept past)

-- No row left in the types that a shape names.
abbrev pub NamesKept : List Schema → List PastPart → Shape → Type 0
NamesKept schemas past shape = All (KeepsNamed schemas past) (shape_names shape)
