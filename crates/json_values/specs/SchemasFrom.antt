-- What reading a list of schemas from JSON answers, and which rule a list with a FLOAT or a DOUBLE breaks first.
use Rattle.std.specs.Prelude.{◌≡◌, ◌<◌, ◌⊎◌, ℕ, List, Option, Some, None, Result, Ok, Err, IsSomeAnd, codes, option_and_then}
use Rattle.serde_json.specs.Data.{Data}
use Rattle.serde_json.specs.Find.{get, at}
use Rattle.schema_model.specs.declared.schema.Schema.{Schema}
use Rattle.schema_model.specs.declared.model.rule.Rule.{Rule}
use Rattle.schema_model.specs.Model.{BreaksAt, IsFirstBroken, IsKept, rule_place}
use Rattle.schema_model.specs.declared.model.faults.ModelFault.{ModelFault}
use Rattle.json_values.specs.SchemaJson.{AreSchemas, HasText, IsFloatName, StandsFor, StandsForWithFloats}
use Rattle.json_values.specs.declared.fault.SchemasFault.{SchemasFault}
use Rattle.json_values.specs.declared.fault.SchemasFault.TheVariants.{Shape, Rule as Broken, Memory}

-- The JSON of a field has the type FLOAT or DOUBLE.
abbrev pub IsFloatField : Data → Type 0
IsFloatField value = (text : List ℕ) × HasText value (codes "type") text × IsFloatName text

-- One of the fields in the JSON of an OBJECT is such a field.
abbrev pub HasFloatField : Data → Type 0
HasFloatField value = (k : ℕ) × IsSomeAnd (option_and_then (at k) (get (codes "fields") value)) IsFloatField

-- The JSON of a schema is that of an OBJECT with such a field.
abbrev pub HasFloat : Data → Type 0
HasFloat value = HasText value (codes "kind") (codes "OBJECT") × HasFloatField value

-- The schema at an index of the list has such a field.
abbrev pub HasFloatAt : Data → ℕ → Type 0
HasFloatAt value t = IsSomeAnd (at t value) HasFloat

-- The type at an index breaks a rule, in a list in which FLOAT and DOUBLE are told from the schemas that the list otherwise stands for.
abbrev pub BreaksWithFloats : Data → List Schema → Rule → ℕ → Type 0
BreaksWithFloats value schemas Rule.FloatField type_index = HasFloatAt value type_index
BreaksWithFloats value schemas rule type_index = BreaksAt schemas rule type_index

-- This is the first rule that some type breaks, and the first type that breaks it.
pub record IsFirstWithFloats (value : Data) (schemas : List Schema) (rule : Rule) (type_index : ℕ) : Type 0 where
  pub earlier : (before : Rule) → rule_place before < rule_place rule → (other : ℕ) → BreaksWithFloats value schemas before other → ⊥
  pub broken : BreaksWithFloats value schemas rule type_index
  pub least : (other : ℕ) → other < type_index → BreaksWithFloats value schemas rule other → ⊥

-- The value is a list of schemas with a FLOAT or a DOUBLE, and breaks this rule first, at this type.
abbrev pub IsRefused : Data → Rule → ℕ → Type 0
IsRefused value rule type_index =
    (schemas : List Schema) × StandsForWithFloats value schemas × ((other : ℕ) × HasFloatAt value other) × IsFirstWithFloats value schemas rule type_index

-- What each answer tells of the value.
abbrev pub TellsSchemas : Data → Result (List Schema) SchemasFault → Type 0
TellsSchemas value (Ok schemas) = StandsFor value schemas
TellsSchemas value (Err Shape) = AreSchemas value → ⊥
TellsSchemas value (Err (Broken rule type_index)) = IsRefused value rule type_index
TellsSchemas value (Err Memory) = Unit {0}

-- Want of memory may come in place of any answer.
abbrev pub IsFreeSchemas : SchemasFault → Type 0
IsFreeSchemas Memory = Unit {0}
IsFreeSchemas _ = ⊥

-- What a search for the first type with a FLOAT or a DOUBLE tells.
abbrev pub TellsFloat : Data → Option ℕ → Type 0
TellsFloat value None = (type_index : ℕ) → HasFloatAt value type_index → ⊥
TellsFloat value (Some type_index) = HasFloatAt value type_index × ((other : ℕ) → other < type_index → HasFloatAt value other → ⊥)

-- No type breaks a rule that is tried before FloatField.
abbrev pub KeepsFirstRules : List Schema → Type 0
KeepsFirstRules schemas = (rule : Rule) → rule_place rule < 3 → IsKept schemas rule

-- The first rule that some type breaks is one that is tried before FloatField.
abbrev pub BreaksFirstRule : List Schema → Rule → ℕ → Type 0
BreaksFirstRule schemas rule t = (rule_place rule < 3) × IsFirstBroken schemas rule t

-- What the test of the rules before FloatField tells.
abbrev pub TellsFirstRules : {T : Type 0} → List Schema → Result T ModelFault → Type 0
TellsFirstRules schemas (Ok made) = KeepsFirstRules schemas
TellsFirstRules schemas (Err (ModelFault.Broken rule type_index)) = BreaksFirstRule schemas rule type_index
TellsFirstRules schemas (Err ModelFault.Memory) = Unit {0}

-- What the refusal of schemas whose first type with a FLOAT or a DOUBLE is at this index tells.
abbrev pub TellsRefusal : List Schema → ℕ → SchemasFault → Type 0
TellsRefusal schemas first (Broken rule type_index) = BreaksFirstRule schemas rule type_index ⊎ ((rule ≡ Rule.FloatField) × (type_index ≡ first) × KeepsFirstRules schemas)
TellsRefusal schemas first Memory = Unit {0}
TellsRefusal schemas first _ = ⊥
