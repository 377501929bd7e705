-- A type of a model by its name.
use Rattle.std.specs.Prelude.{◌≡◌, ℕ, List, IsSomeAnd, slice_get}
use Rattle.schema_model.specs.declared.schema.Schema.{Schema}

-- The type at this index of the model has this name.
abbrev pub IsNameAt : List Schema → ℕ → List ℕ → Type 0
IsNameAt schemas type_index name = IsSomeAnd (slice_get schemas type_index) (λ schema. schema.name ≡ name)
