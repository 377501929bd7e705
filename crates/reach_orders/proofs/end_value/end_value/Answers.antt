use Rattle.std.proofs.Common.{◌≡◌, List, Some, subst}
use Rattle.serde_json.specs.View.{view}
use Rattle.schema_model.specs.declared.model.walk_path.WalkPart.{WalkPart}
use Rattle.hollow_machine.specs.WalkOrders.{kind_walked}
use Rattle.reach_orders.proofs.Seeking.{end_told}
use Rattle.reach_orders.proofs.end_value.end_value.Goals as goal

pub returns : goal.returns
returns c =
    end_told c.args.model.now c.args.path.now (view c.args.value.now) c.kind_behind-kind.result.now c.part_from.result
    (subst (λ (parts : List WalkPart). kind_walked c.args.model.now c.args.path.now.type_index parts ≡ Some c.kind_behind-kind.result.now) c.as_slice.ensures c.kind_behind-kind.ensures.kind) c.part_from.ensures
