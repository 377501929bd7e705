use Rattle.std.proofs.Common.{◌<◌, List, length, subst}
use Rattle.std.proofs.lemmas.Result.{IfOk-weaker}
use Rattle.schema_model.specs.declared.model.rule.Rule.{Rule}
use Rattle.schema_model.specs.declared.model.rule.Rule.TheVariants.{TooDeep}
use Rattle.schema_model.specs.declared.schema.Schema.{Schema}
use Rattle.schema_model.specs.Model.{BreaksAt, IsFirstBreaking, IsFirstBroken}
use Rattle.blob_faults.specs.Failing.{IsFirstFailing}
use Rattle.snapshot_blob.specs.Stated.{schemas_of}
use Rattle.snapshot_blob.proofs.FirstFailing.{cycle_deep, cycle_few, cycle_known, cycle_test, cyclic, part_inside, same_test}
use Rattle.snapshot_blob.proofs.types.first_failing.Goals as goal

pub first_too_deep-requires-clause-few : goal.first_too_deep-requires-clause-few
first_too_deep-requires-clause-few c =
    let schemas = c.in_ok-schemas-in-CyclicModel.schemas in
    cycle_few schemas c.args.type_index (cyclic schemas (schemas_of c.args.parts.now) c.args.rule c.args.type_index c.in_ok-schemas-in-CyclicModel.ensures c.in-CyclicModel.is c.requires)

pub first_too_deep-requires-clause-known : goal.first_too_deep-requires-clause-known
first_too_deep-requires-clause-known c =
    let schemas = c.in_ok-schemas-in-CyclicModel.schemas in
    cycle_known schemas c.args.type_index (cyclic schemas (schemas_of c.args.parts.now) c.args.rule c.args.type_index c.in_ok-schemas-in-CyclicModel.ensures c.in-CyclicModel.is c.requires)

pub first_too_deep-requires-clause-deep : goal.first_too_deep-requires-clause-deep
first_too_deep-requires-clause-deep c =
    let schemas = c.in_ok-schemas-in-CyclicModel.schemas in
    cycle_deep schemas c.args.type_index (cyclic schemas (schemas_of c.args.parts.now) c.args.rule c.args.type_index c.in_ok-schemas-in-CyclicModel.ensures c.in-CyclicModel.is c.requires)

pub returns-in_ok-schemas-in-CyclicModel-clause-inside : goal.returns-in_ok-schemas-in-CyclicModel-clause-inside
returns-in_ok-schemas-in-CyclicModel-clause-inside c =
    let schemas = c.in_ok-schemas-in-CyclicModel.schemas in
    IfOk-weaker c.first_too_deep.result (IsFirstBreaking schemas TooDeep) (λ first. first < length c.args.parts.now)
    (λ first deep. part_inside c.args.parts.now TooDeep first (subst (λ (ss : List Schema). BreaksAt ss TooDeep first) c.in_ok-schemas-in-CyclicModel.ensures deep.broken)) c.first_too_deep.ensures

pub returns-in_ok-schemas-in-CyclicModel-clause-first : goal.returns-in_ok-schemas-in-CyclicModel-clause-first
returns-in_ok-schemas-in-CyclicModel-clause-first c = λ can.
    let all = schemas_of c.args.parts.now in
    IfOk-weaker c.first_too_deep.result (IsFirstBreaking c.in_ok-schemas-in-CyclicModel.schemas TooDeep) (IsFirstFailing all)
    (λ first deep. cycle_test all c.args.type_index first (subst (λ (r : Rule). IsFirstBroken all r c.args.type_index) c.in-CyclicModel.is c.requires)
    (subst (λ (ss : List Schema). IsFirstBreaking ss TooDeep first) c.in_ok-schemas-in-CyclicModel.ensures deep)) c.first_too_deep.ensures

pub returns-in_default : goal.returns-in_default
returns-in_default c = record {
  inside = part_inside c.args.parts.now c.args.rule c.args.type_index c.requires.broken;
  first = λ can. same_test (schemas_of c.args.parts.now) c.args.rule c.args.type_index c.in_default.not-CyclicModel can c.requires;
}
