use Rattle.std.proofs.Common.{arith}
use Rattle.write_engine.proofs.RestoredTypes.{rows_done, rows_start}
use Rattle.write_engine.proofs.restoring.restore_type.Goals as goal

pub loop-ordinal-init : goal.loop-ordinal-init
loop-ordinal-init g c = rows_start (g.R.Rows.table c.args.rows.now) c.args.type_index c.new-map.result c.new-map.ensures

pub returns : goal.returns
returns g c = rows_done (g.R.Rows.table c.args.rows.now) c.args.type_index c.bound-ordinal-end.result c.loop-ordinal.ordinal c.loop-ordinal.map c.bound-ordinal-end.ensures (omega arith) c.loop-ordinal.invariant
