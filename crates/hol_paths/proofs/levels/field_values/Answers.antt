use Rattle.std.proofs.Common.{◌∙◌, ap}
use Rattle.row_model.specs.Key.{unless_null}
use Rattle.hol_paths.proofs.Pieces.{values_all, values_more}
use Rattle.hol_paths.proofs.levels.field_values.Goals as goal

pub loop-ordinal-preserved : goal.loop-ordinal-preserved
loop-ordinal-preserved g c =
    values_more (g.R.Rows.table c.args.rows.now) c.args.type_index c.args.field c.args.level.now c.loop-ordinal.ordinal-index c.unless_null.result c.loop-ordinal.values c.add_some.new.self
    c.loop-ordinal-test.true (c.unless_null.ensures ∙ ap unless_null c.in_ok-value.ensures) c.loop-ordinal.invariant c.in_ok-add_some.ensures

pub returns : goal.returns
returns g c =
    values_all (g.R.Rows.table c.args.rows.now) c.args.type_index c.args.field c.args.level.now c.loop-ordinal.ordinal-index c.loop-ordinal.values c.into_values.result
    c.loop-ordinal-test.false c.into_values.ensures.values c.into_values.ensures.apart c.loop-ordinal.invariant
