-- The limit on the bytes of a blob that is written, and on the key paths of its schemas.
use Rattle.std.specs.Prelude.{◌≡◌, ◌≤◌, ◌<◌, ◌^◌, ℕ, List, Some, All, IfSome, IsSomeAnd, length, slice_get}
use Rattle.schema_model.specs.declared.schema.Schema.{Schema}
use Rattle.schema_model.specs.Parts.{shape_key}
use Rattle.blob_writing.specs.declared.fault.WriteFault.{WriteFault}
use Rattle.blob_writing.specs.declared.fault.WriteFault.TheVariants.{Large, Memory}

-- The type has fewer than 2^32 key paths, whose number fits a VInt.
abbrev pub HasFewPaths : Schema → Type 0
HasFewPaths schema = IfSome (shape_key schema.shape) (λ paths. length paths < 2 ^ 32)

-- It has 2^32 key paths or more.
abbrev pub HasManyPaths : Schema → Type 0
HasManyPaths schema = IsSomeAnd (shape_key schema.shape) (λ paths. 2 ^ 32 ≤ length paths)

-- The type at this index has few key paths.
abbrev pub HasFewPathsAt : List Schema → ℕ → Type 0
HasFewPathsAt schemas type_index = (schema : Schema) → slice_get schemas type_index ≡ Some schema → HasFewPaths schema

-- Each of the types at these indexes has.
abbrev pub HaveFewPaths : List Schema → List ℕ → Type 0
HaveFewPaths schemas types = All (HasFewPathsAt schemas) types

-- What a refusal means: that a blob is too large, only where this holds. Want of memory means nothing.
abbrev pub MeansLarge : Type 0 → WriteFault → Type 0
MeansLarge Fact Large = Fact
MeansLarge Fact Memory = Unit {0}

-- Want of memory may come in place of any answer.
abbrev pub IsFreeWrite : WriteFault → Type 0
IsFreeWrite Large = ⊥
IsFreeWrite Memory = Unit {0}

-- There is such a blob, and it has more than 2^28 bytes.
abbrev pub IsTooLarge : (List ℕ → Type 0) → Type 0
IsTooLarge IsBlob = (blob : List ℕ) × IsBlob blob × (2 ^ 28 < length blob)
