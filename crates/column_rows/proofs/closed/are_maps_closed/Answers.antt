use Rattle.column_rows.proofs.Closing.{maps_closed, named_at}
use Rattle.column_rows.proofs.closed.are_maps_closed.Goals as goal

pub returns : goal.returns
returns g c = λ done ordinal looked.
    maps_closed (g.R.Rows.schemas c.args.rows.now) (g.R.Rows.table c.args.rows.now) c.args.type_index c.in-Some.key_target c.in-Some-index_of.value_target c.args.key.now c.args.value.now
    (named_at (g.R.Rows.schemas c.args.rows.now) c.model.result.now c.args.key.now c.text.result.now c.index_of.result c.in-Some.key_target c.model.ensures.model c.text.ensures c.index_of.ensures.value c.in-Some.is)
    (named_at (g.R.Rows.schemas c.args.rows.now) c.model-2.result.now c.args.value.now c.text-2.result.now c.index_of-2.result c.in-Some-index_of.value_target c.model-2.ensures.model c.text-2.ensures c.index_of-2.ensures.value c.in-Some-index_of.is)
    ordinal (c.runs_live.ensures done ordinal looked)
