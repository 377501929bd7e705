use Rattle.std.proofs.Common.{arith, subst, ap, ◌∙◌, length}
use Rattle.closed_rows.specs.Dangling.{TellsType}
use Rattle.closed_rows.proofs.Danglings.{types_done, types_more}
use Rattle.column_rows.proofs.dangling.first_dangling.Goals as goal

pub loop-type_index-init : goal.loop-type_index-init
loop-type_index-init g c = λ t o lt. absurd (omega arith)

pub returns-in-Some : goal.returns-in-Some
returns-in-Some g c =
    let told = subst (TellsType (g.R.Rows.schemas c.args.rows.now) (g.R.Rows.table c.args.rows.now) c.loop-type_index.type_index) c.in-Some.is c.in_ok-ordinal.ensures in
    ((told.0, told.1), c.loop-type_index.invariant)

pub loop-type_index-preserved : goal.loop-type_index-preserved
loop-type_index-preserved g c = types_more (g.R.Rows.schemas c.args.rows.now) (g.R.Rows.table c.args.rows.now) c.loop-type_index.type_index c.loop-type_index.invariant (subst (TellsType (g.R.Rows.schemas c.args.rows.now) (g.R.Rows.table c.args.rows.now) c.loop-type_index.type_index) c.in_default.is c.in_ok-ordinal.ensures)

pub returns : goal.returns
returns g c = types_done (g.R.Rows.schemas c.args.rows.now) (g.R.Rows.table c.args.rows.now) c.loop-type_index.type_index (omega (arith, c.len-type_index-end.ensures.count ∙ ap length c.model.ensures.model)) c.loop-type_index.invariant
