-- The kept index that the texts of a key name.
use Rattle.std.specs.Prelude.{◌≡◌, ◌<◌, ℕ, List, [], ◌∷◌, Some, length, slice_get}
use Rattle.std.specs.List.{AllZip}
use Rattle.schema_model.specs.declared.model.path.Path.{Path}
use Rattle.schema_model.specs.declared.schema.Schema.{Schema}
use Rattle.schema_model.specs.Path.{Resolves}
use Rattle.read_engine.specs.Indexes.{index_by}
use Rattle.read_engine.specs.Position.{Position}

-- There is one text, and it resolves from the type to the path.
abbrev pub NamesPath : List Schema → ℕ → List (List ℕ) → Path → Type 0
NamesPath schemas t texts path = (text : List ℕ) × (texts ≡ text ∷ []) × Resolves schemas t text path

-- The texts, which are not none, resolve from the type to the paths, each to its own.
abbrev pub AreNamed : List Schema → ℕ → List (List ℕ) → List Path → Type 0
AreNamed schemas t texts paths = (0 < length texts) × AllZip (λ text path. Resolves schemas t text path) texts paths

-- The index under this number is one of the type by these paths, to which the texts resolve.
abbrev pub IsNamedIndex : ℕ → List (List ℕ) → ℕ → List Path → Position → Type 0
IsNamedIndex t texts number paths now = (slice_get now.indexes number ≡ Some (index_by t paths)) × AreNamed now.schemas t texts paths
