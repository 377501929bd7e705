-- The order `model`: what it answers, and the machine behind it.
use Rattle.std.specs.Prelude.{◌≡◌, ◌⊎◌, ℕ, List, Some, None, codes, length, IsSomeAnd}
use Rattle.serde_json.specs.Data.{Data}
use Rattle.serde_json.specs.Find.{at}
use Rattle.schema_model.specs.declared.model.rule.Rule.{Rule}
use Rattle.schema_model.specs.declared.schema.Schema.{Schema}
use Rattle.schema_model.specs.Model.{IsModel, IsFirstBroken}
use Rattle.json_values.specs.SchemaJson.{HasText, StandsFor}
use Rattle.json_values.specs.SchemasFrom.{IsRefused}
use Rattle.hol_answers.specs.declared.refusal.Refusal.{Refusal}
use Rattle.hol_answers.specs.declared.refusal.Refusal.TheVariants.{BadModel, ModelFixed}
use Rattle.hol_answers.specs.declared.reply.Reply.{Reply}
use Rattle.hol_answers.specs.declared.reply.Reply.TheVariants.{Model, Refused}
use Rattle.hollow_machine.specs.State.{Machine, with_producer}
use Rattle.state_blobs.specs.Published.{new_producer}
use Rattle.hollow_machine.specs.Forms.{OrderForm, moving}

-- The schemas that the value stands for break this rule first, and the type at this index is the first that breaks it. A
-- FLOAT or a DOUBLE breaks a rule too, though no schema has one.
abbrev pub BreaksRule : Data → Rule → ℕ → Type 0
BreaksRule value rule t = ((schemas : List Schema) × StandsFor value schemas × IsFirstBroken schemas rule t) ⊎ IsRefused value rule t

-- The schema at an index of the value has this name.
abbrev pub IsNamed : Data → ℕ → List ℕ → Type 0
IsNamed value t name = IsSomeAnd (at t value) (λ schema. HasText schema (codes "name") name)

-- Why the order is refused: there is a producer; or there is none, and this is the first rule that is broken, and the name
-- of the first type that breaks it.
abbrev pub ModelRefusal : Machine → Data → Refusal → Type 0
ModelRefusal machine value ModelFixed = (machine.producer ≡ None) → ⊥
ModelRefusal machine value (BadModel rule name) =
    (machine.producer ≡ None) × ((type_index : ℕ) × BreaksRule value rule type_index × IsNamed value type_index name)
ModelRefusal machine value _ = ⊥

-- What the order answers, and the machine behind it: a new producer of so many types, or as it was.
abbrev pub ModelStep : Machine → Data → Reply → Machine → Type 0
ModelStep machine value (Model types) next =
    (schemas : List Schema) × (machine.producer ≡ None) × StandsFor value schemas × IsModel schemas × (types ≡ length schemas)
    × (next ≡ with_producer machine (Some (new_producer schemas)))
ModelStep machine value (Refused refusal) next = ModelRefusal machine value refusal × (next ≡ machine)
ModelStep machine value _ next = ⊥

abbrev pub model_form : OrderForm Data
model_form = moving (λ machine value reply next. ModelStep machine value reply next)
