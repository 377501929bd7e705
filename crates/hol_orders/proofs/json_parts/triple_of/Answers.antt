use Rattle.serde_json.specs.View.{view}
use Rattle.hol_orders.proofs.Lists.{no_three}
use Rattle.hol_orders.proofs.json_parts.triple_of.Goals as goal

pub returns-in_err-first : goal.returns-in_err-first
returns-in_err-first c = no_three (view c.args.value) c.from_residual.result c.in_err-first.field-0.0 c.from_residual.ensures.1 c.in_err-first.ensures
