use Rattle.std.proofs.Common.{◌∙◌, ap, arith}
use Rattle.serde_json.specs.View.{view}
use Rattle.serde_json.proofs.Views.{view-Array}
use Rattle.hol_orders.proofs.Lists.{same_count}
use Rattle.hol_orders.proofs.json_parts.items.Goals as goal

pub returns : goal.returns
returns g c = λ items count same.
    (let counts = same_count items c.in-Array.items.items (same ∙ ap view c.in-Array.is ∙ view-Array c.in-Array.items) in
    c.in-Err.ensures.1 (omega (arith, counts, count, c.in-Array.items.ok.0)))
