use Rattle.serde_json.specs.View.{view}
use Rattle.hol_orders.proofs.Parts.{no_pair}
use Rattle.hol_orders.proofs.json_parts.Tuple2FromJson.from_json.Goals as goal

pub returns-in_err-first : goal.returns-in_err-first
returns-in_err-first g c = no_pair g.A.FromJson.spelling g.B.FromJson.spelling _ (view c.args.value) c.from_residual.result c.in_err-first.field-0.0 c.from_residual.ensures.1 c.in_err-first.ensures
