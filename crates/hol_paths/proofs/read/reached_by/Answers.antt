use Rattle.hol_paths.proofs.Walks.{if_one}
use Rattle.hol_paths.proofs.read.reached_by.Goals as goal

pub returns : goal.returns
returns g c =
    if_one (g.R.Rows.schemas c.args.rows.now) (g.R.Rows.table c.args.rows.now) c.args.path.now.type_index c.args.ordinal c.args.path.now.parts c.as_slice.result.now c.new-level.result c.push.new.self c.values_along.result
    c.as_slice.ensures c.new-level.ensures c.in_ok-push.ensures.ok c.values_along.ensures
