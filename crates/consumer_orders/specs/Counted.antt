-- What is counted of a type, where the consumer stands.
use Rattle.std.specs.Prelude.{◌≡◌, ℕ, Some, slice_get}
use Rattle.schema_model.specs.declared.schema.Schema.{Schema}
use Rattle.type_state.specs.State.{Half}
use Rattle.read_engine.specs.Position.{Position}
use Rattle.hol_answers.specs.declared.stat.TypeCounts.{TypeCounts}
use Rattle.hollow_machine.specs.StatOrder.{counts_of}

-- This is told of the type at an index.
abbrev pub AreCountsAt : Position → ℕ → TypeCounts → Type 0
AreCountsAt now type_index counts =
    (schema : Schema) × (half : Half) × (slice_get now.schemas type_index ≡ Some schema) × (slice_get now.halves type_index ≡ Some half) × (counts ≡ counts_of schema half)
