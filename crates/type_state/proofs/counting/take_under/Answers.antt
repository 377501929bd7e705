use Rattle.type_state.proofs.LeavingRows.{stands_less, stands_live}
use Rattle.type_state.proofs.counting.take_under.Goals as goal

pub take_off-requires-clause-stands : goal.take_off-requires-clause-stands
take_off-requires-clause-stands c = stands_live c.args.rows.now.rows c.args.leaving.now c.args.ordinal c.requires.standing (c.is_live.ensures.0 c.if-is_live.true)

pub returns-then-is_live : goal.returns-then-is_live
returns-then-is_live c = stands_less c.args.rows.now.rows c.args.leaving.now c.args.ordinal c.args.totals.now c.take_off.new.totals c.requires.standing (c.is_live.ensures.0 c.if-is_live.true) c.take_off.ensures
