use Rattle.serde_json.specs.View.{view}
use Rattle.hol_orders.proofs.Parts.{no_triple, no_first, no_second, no_third}
use Rattle.hol_orders.proofs.json_parts.Tuple3FromJson.from_json.Goals as goal

pub returns-in_err-first : goal.returns-in_err-first
returns-in_err-first g c = no_triple g.A.FromJson.spelling g.B.FromJson.spelling g.C.FromJson.spelling _ (view c.args.value)
    c.from_residual.result c.in_err-first.field-0.0 c.from_residual.ensures.1 c.in_err-first.ensures

pub returns-in_err-first-2 : goal.returns-in_err-first-2
returns-in_err-first-2 g c = no_first g.A.FromJson.spelling g.B.FromJson.spelling g.C.FromJson.spelling _ (view c.args.value)
    c.from_residual-in_err-first-2.result c.in_err-first-2.field-0.0 c.from_residual-in_err-first-2.ensures.1 (view c.in_ok-first.first) (view c.in_ok-first.second) (view c.in_ok-first.third)
    c.in_ok-first.ensures c.in_err-first-2.ensures

pub returns-in_err-second : goal.returns-in_err-second
returns-in_err-second g c = no_second g.A.FromJson.spelling g.B.FromJson.spelling g.C.FromJson.spelling _ (view c.args.value)
    c.from_residual-in_err-second.result c.in_err-second.field-0.0 c.from_residual-in_err-second.ensures.1 (view c.in_ok-first.first) (view c.in_ok-first.second) (view c.in_ok-first.third)
    c.in_ok-first.ensures c.in_err-second.ensures

pub returns-in_err-third : goal.returns-in_err-third
returns-in_err-third g c = no_third g.A.FromJson.spelling g.B.FromJson.spelling g.C.FromJson.spelling _ (view c.args.value)
    c.from_residual-in_err-third.result c.in_err-third.field-0.0 c.from_residual-in_err-third.ensures.1 (view c.in_ok-first.first) (view c.in_ok-first.second) (view c.in_ok-first.third)
    c.in_ok-first.ensures c.in_err-third.ensures
