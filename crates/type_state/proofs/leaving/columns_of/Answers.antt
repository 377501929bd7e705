use Rattle.type_state.proofs.LeavingRows.{column_more}
use Rattle.type_state.proofs.leaving.columns_of.Goals as goal

pub loop-field-preserved : goal.loop-field-preserved
loop-field-preserved c = column_more c.args.rows.now.rows c.loop-field.columns.items c.push.new.self.items c.loop-field.field c.in-Some.column c.loop-field.invariant c.in-Some.ensures c.in_ok-push-in-Some.ensures.items
