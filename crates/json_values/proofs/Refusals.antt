-- Schemas with a FLOAT or a DOUBLE, and without.
use Rattle.std.proofs.Common.{ℕ, suc, ◌<◌, List, [], ◌∷◌, length, inl, inr, Some, None, Option, Ok, Err, arith, sym, subst, codes}
use Rattle.std.specs.Prelude.{IsSomeAnd, option_and_then}
use Rattle.serde_json.specs.Data.{Data, null, boolean, number, string, array, object, Items, no_items, item}
use Rattle.serde_json.specs.Find.{at, get_item}
use Rattle.schema_model.specs.declared.schema.Field.{Field}
use Rattle.schema_model.specs.declared.schema.Schema.{Schema}
use Rattle.schema_model.specs.declared.schema.Shape.{Shape}
use Rattle.schema_model.specs.declared.model.rule.Rule.{Rule}
use Rattle.schema_model.specs.Model.{BreaksAt, IsFirstBroken, IsModel, rule_place}
use Rattle.schema_model.proofs.BrokenRules.{few_types}
use Rattle.json_values.specs.declared.fault.SchemasFault.{SchemasFault}
use Rattle.json_values.specs.SchemaJson.{HasParts, HasText, shape_name, IsArrayOf, IsField, IsKindName, IsKindOrFloat, IsSchema, ItemsAre}
use Rattle.json_values.specs.SchemasFrom.{BreaksWithFloats, HasFloat, IsFloatField, KeepsFirstRules, TellsFloat, TellsRefusal, TellsSchemas}

-- a field that is no FLOAT or DOUBLE
field_exact : (value : Data) (field : Field) → IsField IsKindOrFloat value field → (IsFloatField value → ⊥) → IsField IsKindName value field
field_exact value field is none = record {
  name = is.name;
  kind = elim is.kind.2 [ inl e ↦ (is.kind.0, is.kind.1, e) | inr float ↦ absurd (none (is.kind.0, is.kind.1, float.1)) ];
  target = is.target;
}

fields_exact : (items : Items) (fields : List Field) → ItemsAre (IsField IsKindOrFloat) items fields → ((k : ℕ) → IsSomeAnd (get_item k items) IsFloatField → ⊥)
    → ItemsAre (IsField IsKindName) items fields
fields_exact no_items [] are none = tt
fields_exact no_items (f ∷ fields) are none = absurd are
fields_exact (item d items) [] are none = absurd are
fields_exact (item d items) (f ∷ fields) are none = (field_exact d f are.0 (none 0), fields_exact items fields are.1 (λ k. none (suc k)))

found_exact : (found : Option Data) (fields : List Field) → IsSomeAnd found (λ d. IsArrayOf (IsField IsKindOrFloat) d fields)
    → ((k : ℕ) → IsSomeAnd (option_and_then (at k) found) IsFloatField → ⊥) → IsSomeAnd found (λ d. IsArrayOf (IsField IsKindName) d fields)
found_exact None fields are none = absurd are
found_exact (Some null) fields are none = absurd are
found_exact (Some (boolean b)) fields are none = absurd are
found_exact (Some (number n)) fields are none = absurd are
found_exact (Some (string text)) fields are none = absurd are
found_exact (Some (array items)) fields are none = fields_exact items fields are none
found_exact (Some (object _)) fields are none = absurd are

parts_exact : (value : Data) (shape : Shape) → HasText value (codes "kind") (shape_name shape) → HasParts IsKindOrFloat value shape → (HasFloat value → ⊥) → HasParts IsKindName value shape
parts_exact value (Shape.Object key fields) kind parts none = (found_exact _ fields parts.0 (λ k some. none (kind, (k, some))), parts.1)
parts_exact value (Shape.Set element) kind parts none = parts
parts_exact value (Shape.List element) kind parts none = parts
parts_exact value (Shape.Map key element) kind parts none = parts

schemas_exact : (items : Items) (schemas : List Schema) → ItemsAre (IsSchema IsKindOrFloat) items schemas → ((t : ℕ) → IsSomeAnd (get_item t items) HasFloat → ⊥)
    → ItemsAre (IsSchema IsKindName) items schemas
schemas_exact no_items [] are none = tt
schemas_exact no_items (s ∷ schemas) are none = absurd are
schemas_exact (item d items) [] are none = absurd are
schemas_exact (item d items) (s ∷ schemas) are none = (
  record { name = are.0.name; kind = are.0.kind; parts = parts_exact d s.shape are.0.kind are.0.parts (none 0) },
  schemas_exact items schemas are.1 (λ t. none (suc t)),
)

-- a list without FLOAT and DOUBLE stands for its schemas
pub none_float : (items : Items) (schemas : List Schema) → ItemsAre (IsSchema IsKindOrFloat) items schemas → TellsFloat (array items) None → TellsSchemas (array items) (Ok schemas)
none_float items schemas are none = schemas_exact items schemas are none

-- the rules before FloatField are the same in a list with FLOAT and DOUBLE
same_breaks : (value : Data) (schemas : List Schema) (rule : Rule) (t : ℕ) → rule_place rule < 3 → BreaksWithFloats value schemas rule t → BreaksAt schemas rule t
same_breaks value schemas Rule.FloatField t early breaks = absurd (omega arith)
same_breaks value schemas Rule.TooMany t early breaks = breaks
same_breaks value schemas Rule.LongName t early breaks = breaks
same_breaks value schemas Rule.DuplicateName t early breaks = breaks
same_breaks value schemas Rule.UnknownType t early breaks = breaks
same_breaks value schemas Rule.CyclicModel t early breaks = breaks
same_breaks value schemas Rule.TooDeep t early breaks = breaks
same_breaks value schemas Rule.BadPath t early breaks = breaks

breaks_same : (value : Data) (schemas : List Schema) (rule : Rule) (t : ℕ) → rule_place rule < 3 → BreaksAt schemas rule t → BreaksWithFloats value schemas rule t
breaks_same value schemas Rule.FloatField t early breaks = absurd (omega arith)
breaks_same value schemas Rule.TooMany t early breaks = breaks
breaks_same value schemas Rule.LongName t early breaks = breaks
breaks_same value schemas Rule.DuplicateName t early breaks = breaks
breaks_same value schemas Rule.UnknownType t early breaks = breaks
breaks_same value schemas Rule.CyclicModel t early breaks = breaks
breaks_same value schemas Rule.TooDeep t early breaks = breaks
breaks_same value schemas Rule.BadPath t early breaks = breaks

-- what a refusal tells of the value
pub refused : (items : Items) (schemas : List Schema) (first : ℕ) (fault : SchemasFault) → ItemsAre (IsSchema IsKindOrFloat) items schemas → TellsFloat (array items) (Some first)
    → TellsRefusal schemas first fault → TellsSchemas (array items) (Err fault)
refused items schemas first SchemasFault.Shape are found tells = absurd tells
refused items schemas first SchemasFault.Memory are found tells = tt
refused items schemas first (SchemasFault.Rule rule t) are found (inl (early, broken)) = (
  schemas,
  are,
  (first, found.0),
  record {
    earlier = λ before below u breaks. broken.earlier before below u (same_breaks (array items) schemas before u (omega arith) breaks);
    broken = breaks_same (array items) schemas rule t early broken.broken;
    least = λ u below breaks. broken.least u below (same_breaks (array items) schemas rule u early breaks);
  },
)
refused items schemas first (SchemasFault.Rule rule t) are found (inr (is, at, kept)) =
    subst (λ r. TellsSchemas (array items) (Err (SchemasFault.Rule r t))) (sym is)
    (subst (λ u. TellsSchemas (array items) (Err (SchemasFault.Rule Rule.FloatField u))) (sym at) (
      schemas,
      are,
      (first, found.0),
      record {
        earlier = λ before below u breaks. kept before below u (same_breaks (array items) schemas before u below breaks);
        broken = found.0;
        least = found.1;
      },
    ))

-- the first rules of a model are kept
pub model_keeps : (schemas : List Schema) → IsModel schemas → KeepsFirstRules schemas
model_keeps schemas model rule early = model rule

-- they are kept where the first broken rule comes later
pub later_keeps : (schemas : List Schema) (rule : Rule) (t : ℕ) → IsFirstBroken schemas rule t → (rule_place rule < 3 → ⊥) → KeepsFirstRules schemas
later_keeps schemas rule t broken late before early = broken.earlier before (omega arith)

-- an index of one of few types
pub small_index : (schemas : List Schema) (t : ℕ) → t < length schemas → KeepsFirstRules schemas → t < 512
small_index schemas t inside kept = few_types schemas t inside (kept Rule.TooMany (omega arith) t)
