use Rattle.column_rows.proofs.Lives.{list_live}
use Rattle.column_rows.proofs.runs.is_list_live.Goals as goal

pub returns : goal.returns
returns g c = λ done. list_live (g.R.Rows.table c.args.rows.now) c.args.type_index c.args.target c.args.ordinal c.args.lists.now c.in-Some.elements c.requires c.in-Some.ensures (c.elements_live.ensures done)
