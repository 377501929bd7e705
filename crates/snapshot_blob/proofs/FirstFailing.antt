-- The first type of a blob that fails a test, from the rule that its schemas break first.
use Rattle.std.proofs.Common.{◌≡◌, ◌≤◌, ◌<◌, ◌∙◌, ℕ, List, length, get_or, sym, ap, subst, arith, refl, lit<}
use Rattle.std.specs.Prelude.{◌≢◌}
use Rattle.std.specs.Option.{option_map}
use Rattle.std.proofs.lemmas.List.{length-map}
use Rattle.std.proofs.lemmas.Option.{slice_get-map, slice_get-get_or, slice_get_within}
use Rattle.schema_model.specs.declared.model.rule.Rule.{Rule}
use Rattle.schema_model.specs.declared.model.rule.Rule.TheVariants.{TooMany, LongName, DuplicateName, FloatField, UnknownType, CyclicModel, TooDeep, BadPath}
use Rattle.schema_model.specs.declared.reason.Reason.TheVariants.{BadSchema}
use Rattle.schema_model.specs.declared.schema.Schema.{Schema}
use Rattle.schema_model.specs.Model.{BreaksAt, IsFirstBreaking, IsFirstBroken, IsKept, rule_place}
use Rattle.schema_model.proofs.ModelFacts.{few_schemas}
use Rattle.blob_frame.specs.declared.fault.BlobFault.TheVariants as fault
use Rattle.blob_faults.specs.Failing.{IsFirstFailing, IsTest}
use Rattle.blob_faults.specs.Models.{are_model}
use Rattle.snapshot_blob.specs.declared.part.TypePart.{TypePart}
use Rattle.snapshot_blob.specs.Judged.{offsets_of}
use Rattle.snapshot_blob.specs.Stated.{CanStand, schemas_of}

-- a rule that is a test is the one that fails
tested : (schemas : List Schema) (rule : Rule) (t : ℕ) → IsTest rule → IsFirstBroken schemas rule t → IsFirstFailing schemas t
tested schemas rule t is_test first = record {
  rule = rule;
  is_test = is_test;
  earlier = λ before is less. first.earlier before less;
  first = record { broken = first.broken; least = first.least };
}

-- what can stand in a blob and leads into no cycle fails the test of the rule that it breaks
pub same_test : (schemas : List Schema) (rule : Rule) (t : ℕ) → rule ≢ CyclicModel → CanStand schemas → IsFirstBroken schemas rule t → IsFirstFailing schemas t
same_test schemas TooMany t other can first = absurd (can.few t first.broken)
same_test schemas LongName t other can first = absurd (can.short t first.broken)
same_test schemas DuplicateName t other can first = tested schemas DuplicateName t tt first
same_test schemas FloatField t other can first = absurd first.broken.2
same_test schemas UnknownType t other can first = tested schemas UnknownType t tt first
same_test schemas CyclicModel t other can first = absurd (other refl)
same_test schemas TooDeep t other can first = tested schemas TooDeep t tt first
same_test schemas BadPath t other can first = tested schemas BadPath t tt first

-- the tests before that of depth are rules before that of cycles
before_cycles : (before : Rule) → IsTest before → rule_place before < rule_place TooDeep → rule_place before < rule_place CyclicModel
before_cycles DuplicateName is less = lit< tt
before_cycles UnknownType is less = lit< tt
before_cycles TooDeep is less = absurd (omega (arith, less))
before_cycles BadPath is less = absurd (omega (arith, less))
before_cycles _ is less = absurd is

-- what leads into a cycle fails the test of depth
pub cycle_test : (schemas : List Schema) (t first : ℕ) → IsFirstBroken schemas CyclicModel t → IsFirstBreaking schemas TooDeep first → IsFirstFailing schemas first
cycle_test schemas t first cyclic deep = record {
  rule = TooDeep;
  is_test = tt;
  earlier = λ before is less. cyclic.earlier before (before_cycles before is less);
  first = deep;
}

-- the same of a list that is those schemas
pub cyclic : (schemas all : List Schema) (rule : Rule) (t : ℕ) → schemas ≡ all → rule ≡ CyclicModel → IsFirstBroken all rule t → IsFirstBroken schemas CyclicModel t
cyclic schemas all rule t are is first = subst (λ (ss : List Schema). IsFirstBroken ss CyclicModel t) (sym are) (subst (λ (r : Rule). IsFirstBroken all r t) is first)

-- where the references of a type lead into a cycle there are few types, the types that are named are there, and the type is too deep
pub cycle_few : (schemas : List Schema) (t : ℕ) → IsFirstBroken schemas CyclicModel t → length schemas ≤ 512
cycle_few schemas t cyclic = few_schemas schemas (cyclic.earlier TooMany (lit< tt))

pub cycle_known : (schemas : List Schema) (t : ℕ) → IsFirstBroken schemas CyclicModel t → IsKept schemas UnknownType
cycle_known schemas t cyclic = cyclic.earlier UnknownType (lit< tt)

pub cycle_deep : (schemas : List Schema) (t : ℕ) → IsFirstBroken schemas CyclicModel t → BreaksAt schemas TooDeep t
cycle_deep schemas t cyclic = (cyclic.broken.0, cyclic.broken.1, cyclic.broken.2 32)

-- a type that breaks a rule is one of the parts
pub part_inside : (parts : List TypePart) (rule : Rule) (t : ℕ) → BreaksAt (schemas_of parts) rule t → t < length parts
part_inside parts rule t broken = omega (arith, slice_get_within (schemas_of parts) t broken.0 broken.1, length-map parts (λ (part : TypePart). part.schema))

-- the first that fails a test is at fault at its offset
pub model_fails : (parts : List TypePart) (t : ℕ) (other : TypePart) → t < length parts → IsFirstFailing (schemas_of parts) t →
    (are_model (offsets_of parts) (schemas_of parts)).Fails (fault.Bad (get_or parts t other).at BadSchema)
unfolding are_model
model_fails parts t other inside first =
    let at = slice_get-map (λ (p : TypePart). p.at) parts t ∙ ap (option_map (λ (p : TypePart). p.at)) (slice_get-get_or parts t other inside) in
    (t, first, ((get_or parts t other).at, at, refl))
