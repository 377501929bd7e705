use Rattle.std.proofs.Common.{◌≡◌, ◌∙◌, sym, subst, ◌≤◌, ◌<◌, length, List, [], get_or}
use Rattle.std.proofs.lemmas.List.{length-map}
use Rattle.std.proofs.lemmas.Result.{IfOk-weaker}
use Rattle.schema_model.specs.Model.{StandsEarlier}
use Rattle.schema_model.specs.Parts.{type_names}
use Rattle.schema_model.specs.declared.schema.Field.{Field}
use Rattle.schema_model.proofs.Indexing.{item_name}
use Rattle.schema_model.proofs.BrokenRules.{few_fields}
use Rattle.model_rules.proofs.RuleTests.{repeated_name, told_no}
use Rattle.model_rules.proofs.rules.has_repeated_name.Goals as goal

pub has_repeated_field-requires : goal.has_repeated_field-requires
has_repeated_field-requires c =
    subst (λ (fields : List Field). length fields ≤ 1024) (sym c.fields.ensures)
    (few_fields c.args.schemas.now c.args.type_index c.get-schema.result.now c.get-schema.ensures c.requires.few)

pub returns : goal.returns
returns c =
    let schemas = c.args.schemas.now in
    let schema = c.get-schema.result.now in
    let name : get_or (type_names schemas) c.args.type_index [] ≡ c.text.result.now =
    item_name (λ s. s.name) schemas c.args.type_index schema c.get-schema.ensures ∙ sym c.text.ensures in
    let inside : c.args.type_index < length (type_names schemas) = rw (length-map schemas (λ s. s.name)) c.requires.inside in
    let first : StandsEarlier (type_names schemas) c.args.type_index → ⊥ =
    told_no _ (c.stands_earlier.ensures (type_names schemas) c.requires.indexed inside name) c.if-stands_earlier.false in
    IfOk-weaker c.has_repeated_field.result _ _
    (λ b tells. repeated_name schemas c.args.type_index schema c.get-schema.ensures first c.fields.result.now c.fields.ensures b tells)
    c.has_repeated_field.ensures
