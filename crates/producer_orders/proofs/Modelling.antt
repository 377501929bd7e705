-- The order `model`: the schema that breaks a rule has a name, and what a refusal of it means.
use Rattle.std.proofs.Common.{◌≡◌, inl, inr, ℕ, zero, suc, List, [], ◌∷◌, Some, None, Result, Ok, Err, IfOk, refl, sym, subst}
use Rattle.std.specs.List.{slice_get}
use Rattle.std.specs.Prelude.{IsSomeAnd, codes}
use Rattle.serde_json.specs.Data.{Data, Items, no_items, item, array}
use Rattle.serde_json.specs.Find.{get_item}
use Rattle.schema_model.specs.declared.model.rule.Rule.{Rule}
use Rattle.schema_model.specs.declared.model.rule.Rule.TheVariants as rule
use Rattle.schema_model.specs.declared.schema.FieldKind.{FieldKind}
use Rattle.schema_model.specs.declared.schema.Schema.{Schema}
use Rattle.json_values.specs.SchemaJson.{HasText, IsSchema, ItemsAre}
use Rattle.json_values.specs.SchemasFrom.{TellsSchemas}
use Rattle.json_values.specs.declared.fault.SchemasFault.{SchemasFault}
use Rattle.json_values.specs.declared.fault.SchemasFault.TheVariants as rule_fault
use Rattle.hol_answers.specs.declared.refusal.Refusal.TheVariants.{BadModel}
use Rattle.hol_answers.specs.declared.reply.Reply.{Reply}
use Rattle.hol_answers.specs.declared.reply.Reply.TheVariants.{Refused}
use Rattle.hollow_machine.specs.ModelOrder.{BreaksRule, IsNamed, ModelStep}
use Rattle.hollow_machine.specs.State.{Machine}
use Rattle.hol_orders.specs.declared.order_stop.OrderStop.{OrderStop}

-- an item that stands for a schema has its name
item_named : (Named : FieldKind → List ℕ → Type 0) (items : Items) (schemas : List Schema) (t : ℕ) (schema : Schema) → ItemsAre (IsSchema Named) items schemas → slice_get schemas t ≡ Some schema →
    (name : List ℕ) × IsSomeAnd (get_item t items) (λ d. HasText d (codes "name") name)
item_named Named no_items [] t schema are found = absurd cc
item_named Named no_items (x ∷ xs) t schema are found = absurd are
item_named Named (item d items) [] t schema are found = absurd are
item_named Named (item d items) (x ∷ xs) zero schema are found = (x.name, are.0.name)
item_named Named (item d items) (x ∷ xs) (suc t) schema are found = item_named Named items xs t schema are.1 found

item_there : (Named : FieldKind → List ℕ → Type 0) (P : Data → Type 0) (items : Items) (schemas : List Schema) (t : ℕ) → ItemsAre (IsSchema Named) items schemas → IsSomeAnd (get_item t items) P →
    (name : List ℕ) × IsSomeAnd (get_item t items) (λ d. HasText d (codes "name") name)
item_there Named P no_items schemas t are some = absurd some
item_there Named P (item d items) [] t are some = absurd are
item_there Named P (item d items) (x ∷ xs) zero are some = (x.name, are.0.name)
item_there Named P (item d items) (x ∷ xs) (suc t) are some = item_there Named P items xs t are.1 some

-- the schema that breaks a rule first has a name
pub rule_named : (value : Data) (broken : Rule) (t : ℕ) → BreaksRule value broken t → (name : List ℕ) × IsNamed value t name
rule_named (array items) broken t (inl (schemas, stands, first)) = item_named _ items schemas t first.broken.0 stands first.broken.1
rule_named (array items) rule.FloatField t (inr (schemas, stands, some, first)) = item_there _ _ items schemas t stands first.broken
rule_named (array items) _ t (inr (schemas, stands, some, first)) = item_named _ items schemas t first.broken.0 stands first.broken.1
rule_named _ broken t (inl (schemas, stands, first)) = absurd stands
rule_named _ broken t (inr (schemas, stands, some, first)) = absurd stands

-- a refusal that names the rule and the type is that of the order
pub rule_refuses : (machine : Machine) (value : Data) (broken : Rule) (t : ℕ) (r : Result Reply OrderStop) → machine.producer ≡ None → BreaksRule value broken t →
    IfOk r (λ reply. (name : List ℕ) × (reply ≡ Refused (BadModel broken name)) × IsNamed value t name) → IfOk r (λ reply. ModelStep machine value reply machine)
rule_refuses machine value broken t (Ok reply) none breaks (name, is, named) =
    subst (λ answer. ModelStep machine value answer machine) (sym is) ((none, (t, breaks, named)), refl)
rule_refuses machine value broken t (Err stop) none breaks told = tt

-- schemas that are refused break a rule
pub schemas_refused : (value : Data) (broken : Rule) (t : ℕ) (fault : SchemasFault) → fault ≡ rule_fault.Rule broken t → TellsSchemas value (Err fault) → BreaksRule value broken t
schemas_refused value broken t fault is tells = inr (subst (λ f. TellsSchemas value (Err f)) is tells)
