-- What is tried of the schemas of a blob. Each test goes over all types before the next one begins; a type that fails one is at fault at the
-- offset of its schema.
use Rattle.std.specs.Prelude.{◌≡◌, ℕ, List, Some, slice_get}
use Rattle.schema_model.specs.declared.model.rule.Rule.TheVariants.{DuplicateName}
use Rattle.schema_model.specs.declared.reason.Reason.TheVariants.{BadSchema}
use Rattle.schema_model.specs.declared.schema.Schema.{Schema}
use Rattle.schema_model.specs.Model.{IsFirstBreaking, IsKept, IsModel}
use Rattle.blob_frame.specs.declared.fault.BlobFault.{BlobFault}
use Rattle.blob_frame.specs.declared.fault.BlobFault.TheVariants as fault
use Rattle.blob_faults.specs.Judge.{Judge}
use Rattle.blob_faults.specs.Failing.{IsFirstFailing}
use Rattle.blob_faults.specs.Decided.{decides_model, decides_names}

-- The schema of the type at an index, whose offset is that at the same index, is at fault.
abbrev pub BlamesSchema : List ℕ → ℕ → BlobFault → Type 0
BlamesSchema offsets t found = (at : ℕ) × (slice_get offsets t ≡ Some at) × (found ≡ fault.Bad at BadSchema)

-- The schemas of a snapshot are a model.
unfoldable pub are_model : List ℕ → List Schema → Judge Unit
are_model offsets schemas = record {
  Passes = λ u. IsModel schemas;
  Fails = λ found. (t : ℕ) × IsFirstFailing schemas t × BlamesSchema offsets t found;
  decided = decides_model offsets schemas;
}

-- No name of a type, and none of a field within a type, stands twice in a delta.
unfoldable pub names_once : List ℕ → List Schema → Judge Unit
names_once offsets schemas = record {
  Passes = λ u. IsKept schemas DuplicateName;
  Fails = λ found. (t : ℕ) × IsFirstBreaking schemas DuplicateName t × BlamesSchema offsets t found;
  decided = decides_names offsets schemas;
}
