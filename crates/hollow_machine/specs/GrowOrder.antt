-- The order `grow`: what it answers, and the machine behind it.
use Rattle.std.specs.Prelude.{◌≡◌, ℕ, List, Option, Some, None, IsSome, IsSomeAnd, length, slice_get}
use Rattle.serde_json.specs.Data.{Data}
use Rattle.schema_model.specs.declared.schema.Schema.{Schema}
use Rattle.schema_model.specs.Growth.{Grows, IsNotGrown}
use Rattle.schema_model.specs.Model.{IsModel}
use Rattle.row_model.specs.View.{view}
use Rattle.json_values.specs.SchemaJson.{StandsFor}
use Rattle.hol_answers.specs.declared.refusal.Refusal.{Refusal}
use Rattle.hol_answers.specs.declared.refusal.Refusal.TheVariants.{BadModel, NoModel, NotGrown}
use Rattle.hol_answers.specs.declared.reply.Reply.{Reply}
use Rattle.hol_answers.specs.declared.reply.Reply.TheVariants.{Grow, Refused}
use Rattle.hollow_machine.specs.Forms.{OrderForm, moving}
use Rattle.hollow_machine.specs.ModelOrder.{BreaksRule, IsNamed}
use Rattle.hollow_machine.specs.State.{Machine, with_producer}
use Rattle.state_blobs.specs.Published.{Published}

-- The producer that goes on with a model: its last state is seen through that model, and keeps its tag and its version.
abbrev pub grown_producer : List Schema → Published → Published
grown_producer schemas last = record last { model = schemas; rows = view schemas last.model last.rows }

-- The value stands for a model, which does not grow the producer's own; and this is the name of the first type of the producer's model that the other one does
-- not have, as it was or grown.
abbrev pub GrowsNot : Data → List ℕ → Published → Type 0
GrowsNot value name last =
    (schemas : List Schema) × StandsFor value schemas × IsModel schemas
    × (type_index : ℕ) × IsNotGrown last.model schemas type_index × IsSomeAnd (slice_get last.model type_index) (λ schema. schema.name ≡ name)

-- Why the order is refused: there is no producer; or there is one, and this is the first rule that is broken, and the name of the first type that breaks it;
-- or none is broken, and the model does not grow the producer's own in the type of this name.
abbrev pub GrowRefusal : Machine → Data → Refusal → Type 0
GrowRefusal machine value NoModel = machine.producer ≡ None
GrowRefusal machine value (BadModel rule name) = IsSome machine.producer × ((type_index : ℕ) × BreaksRule value rule type_index × IsNamed value type_index name)
GrowRefusal machine value (NotGrown name) = IsSomeAnd machine.producer (GrowsNot value name)
GrowRefusal machine value _ = ⊥

-- The value stands for a model of so many types, which grows the producer's own; and the machine's producer goes on with it.
abbrev pub GrowsOn : Machine → Data → ℕ → Machine → Published → Type 0
GrowsOn machine value types next last =
    (schemas : List Schema) × StandsFor value schemas × IsModel schemas × Grows last.model schemas × (types ≡ length schemas)
    × (next ≡ with_producer machine (Some (grown_producer schemas last)))

-- What the order answers, and the machine behind it: the producer with its new model, of so many types, or as it was.
abbrev pub GrowStep : Machine → Data → Reply → Machine → Type 0
GrowStep machine value (Grow types) next = IsSomeAnd machine.producer (GrowsOn machine value types next)
GrowStep machine value (Refused refusal) next = GrowRefusal machine value refusal × (next ≡ machine)
GrowStep machine value _ next = ⊥

abbrev pub grow_form : OrderForm Data
grow_form = moving (λ machine value reply next. GrowStep machine value reply next)
