use Rattle.column_rows.proofs.Closing.{lists_closed, named_at}
use Rattle.column_rows.proofs.closed.are_lists_closed.Goals as goal

pub returns : goal.returns
returns g c = λ done ordinal looked.
    lists_closed (g.R.Rows.schemas c.args.rows.now) (g.R.Rows.table c.args.rows.now) c.args.type_index c.in-Some.target c.args.element.now c.in-Some-lists.lists
    (named_at (g.R.Rows.schemas c.args.rows.now) c.model.result.now c.args.element.now c.text.result.now c.index_of.result c.in-Some.target c.model.ensures.model c.text.ensures c.index_of.ensures.value c.in-Some.is) c.in-Some-lists.ensures ordinal (c.lists_live.ensures done ordinal looked)
