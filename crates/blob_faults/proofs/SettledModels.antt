-- The trial of the schemas of a snapshot is settled: some type breaks the first test that is broken, and there is a first one.
use Rattle.std.proofs.Common.{◌≡◌, ◌<◌, ℕ, List, Some, refl, arith, length, get_or, slice_get}
use Rattle.std.proofs.lemmas.Option.{slice_get-get_or, slice_get_within}
use Rattle.schema_model.specs.declared.model.rule.Rule.{Rule}
use Rattle.schema_model.specs.declared.model.rule.Rule.TheVariants.{TooMany, LongName, DuplicateName, FloatField, UnknownType, CyclicModel, TooDeep, BadPath}
use Rattle.schema_model.specs.declared.reason.Reason.TheVariants.{BadSchema}
use Rattle.schema_model.specs.declared.schema.Schema.{Schema}
use Rattle.schema_model.specs.Model.{BreaksAt, IsFirstBreaking, IsKept, IsModel, rule_place}
use Rattle.blob_frame.specs.declared.fault.BlobFault.TheVariants as fault
use Rattle.blob_faults.specs.Failing.{IsFirstFailing, IsTest}
use Rattle.blob_faults.specs.Models.{are_model}
use Rattle.blob_faults.specs.Settles.{Settles}
use Rattle.blob_faults.proofs.LeastNumber.{no_number}

-- a rule that no type is the first to break is kept
kept_unless : (schemas : List Schema) (rule : Rule) → ((t : ℕ) → IsFirstBreaking schemas rule t → ⊥) → IsKept schemas rule
kept_unless schemas rule none = no_number (BreaksAt schemas rule) (λ t broken least. none t record { broken = broken; least = least })

-- the tests before a place in the order of the rules are kept
tests_before : (schemas : List Schema) (place : ℕ) → (2 < place → IsKept schemas DuplicateName) → (4 < place → IsKept schemas UnknownType) → (6 < place → IsKept schemas TooDeep)
    → (7 < place → IsKept schemas BadPath) → (rule : Rule) → IsTest rule → rule_place rule < place → IsKept schemas rule
tests_before schemas place names types depths paths TooMany is below = absurd is
tests_before schemas place names types depths paths LongName is below = absurd is
tests_before schemas place names types depths paths DuplicateName is below = names below
tests_before schemas place names types depths paths FloatField is below = absurd is
tests_before schemas place names types depths paths UnknownType is below = types below
tests_before schemas place names types depths paths CyclicModel is below = absurd is
tests_before schemas place names types depths paths TooDeep is below = depths below
tests_before schemas place names types depths paths BadPath is below = paths below

-- schemas that keep the tests, and the rules that all keep that can be read, are a model; a type that leads into a cycle is too deep
model_tested : (schemas : List Schema) → IsKept schemas TooMany → IsKept schemas LongName → IsKept schemas DuplicateName → IsKept schemas UnknownType → IsKept schemas TooDeep
    → IsKept schemas BadPath → IsModel schemas
model_tested schemas many long names types depths paths TooMany t broken = many t broken
model_tested schemas many long names types depths paths LongName t broken = long t broken
model_tested schemas many long names types depths paths DuplicateName t broken = names t broken
model_tested schemas many long names types depths paths FloatField t broken = broken.2
model_tested schemas many long names types depths paths UnknownType t broken = types t broken
model_tested schemas many long names types depths paths CyclicModel t broken = depths t (broken.0, broken.1, broken.2 32)
model_tested schemas many long names types depths paths TooDeep t broken = depths t broken
model_tested schemas many long names types depths paths BadPath t broken = paths t broken

-- schemas of which none is the first that fails are a model
model_unless : (schemas : List Schema) → IsKept schemas TooMany → IsKept schemas LongName → ((t : ℕ) → IsFirstFailing schemas t → ⊥) → IsModel schemas
model_unless schemas many long none =
    let names : IsKept schemas DuplicateName = kept_unless schemas DuplicateName (λ t first. none t record {
      rule = DuplicateName;
      is_test = tt;
      earlier = tests_before schemas 2 (λ less. absurd (omega (arith, less))) (λ less. absurd (omega (arith, less))) (λ less. absurd (omega (arith, less))) (λ less. absurd (omega (arith, less)));
      first = first;
    }) in
    let types : IsKept schemas UnknownType = kept_unless schemas UnknownType (λ t first. none t record {
      rule = UnknownType;
      is_test = tt;
      earlier = tests_before schemas 4 (λ less. names) (λ less. absurd (omega (arith, less))) (λ less. absurd (omega (arith, less))) (λ less. absurd (omega (arith, less)));
      first = first;
    }) in
    let depths : IsKept schemas TooDeep = kept_unless schemas TooDeep (λ t first. none t record {
      rule = TooDeep;
      is_test = tt;
      earlier = tests_before schemas 6 (λ less. names) (λ less. types) (λ less. absurd (omega (arith, less))) (λ less. absurd (omega (arith, less)));
      first = first;
    }) in
    let paths : IsKept schemas BadPath = kept_unless schemas BadPath (λ t first. none t record {
      rule = BadPath;
      is_test = tt;
      earlier = tests_before schemas 7 (λ less. names) (λ less. types) (λ less. depths) (λ less. absurd (omega (arith, less)));
      first = first;
    }) in
    model_tested schemas many long names types depths paths

-- each schema that stands at an index has an offset there
pub offset_there : {A : Type 0} (offsets : List ℕ) (items : List A) (index : ℕ) (item : A) → length offsets ≡ length items → slice_get items index ≡ Some item
    → (at : ℕ) × (slice_get offsets index ≡ Some at)
offset_there offsets items index item same there =
    let inside = slice_get_within items index item there in (get_or offsets index 0, slice_get-get_or offsets index 0 (omega (arith, same, inside)))

-- schemas that can be read are a model, or one of them is the first that fails
pub settles_model : (offsets : List ℕ) (schemas : List Schema) → length offsets ≡ length schemas → IsKept schemas TooMany → IsKept schemas LongName → Settles (are_model offsets schemas)
unfolding are_model
settles_model offsets schemas same many long no_pass no_fail =
    no_pass tt (model_unless schemas many long (λ t failing.
    let at = offset_there offsets schemas t failing.first.broken.0 same failing.first.broken.1 in
    no_fail (fault.Bad at.0 BadSchema) (t, failing, (at.0, at.1, refl))))
