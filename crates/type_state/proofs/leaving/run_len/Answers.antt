use Rattle.std.proofs.Common.{arith}
use Rattle.type_state.proofs.LeavingRows.{run_counted, run_small}
use Rattle.type_state.proofs.leaving.run_len.Goals as goal

pub overflow_cast-size : goal.overflow_cast-size
overflow_cast-size c = let small = run_small c.args.items.now c.args.ordinal c.from.result c.requires.0 c.size.result c.from.ensures c.requires.1 c.requires.2 c.size.ensures in omega (arith, small)

pub returns : goal.returns
returns c = λ row parts there. run_counted c.args.items.now c.args.ordinal c.from.result row c.size.result c.buckets_for.result c.from.ensures parts there c.size.ensures c.buckets_for.ensures.is
