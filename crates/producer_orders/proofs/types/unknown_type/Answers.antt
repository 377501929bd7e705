use Rattle.std.proofs.Common.{ap, ◌∙◌}
use Rattle.serde_json.specs.View.{view}
use Rattle.hol_orders.specs.Parts.{added}
use Rattle.producer_orders.proofs.KnownTypes.{are_bare, unknown_named}
use Rattle.producer_orders.proofs.types.unknown_type.Goals as goal

pub unknown_name-requires-in-Line : goal.unknown_name-requires-in-Line
unknown_name-requires-in-Line c = let names = c.names.ensures in are_bare (view c.names.result.now) names.0 names.2

pub returns-in-Line : goal.returns-in-Line
returns-in-Line c =
    let names = c.names.ensures in
    unknown_named c.args.model.now (view c.names.result.now) (added c.args.add.now) names.0 c.unknown_name-in-Line.result (ap added c.in-Line.is ∙ names.1) names.2 c.unknown_name-in-Line.ensures
