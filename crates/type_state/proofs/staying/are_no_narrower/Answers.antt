use Rattle.std.proofs.Common.{arith}
use Rattle.type_state.proofs.Widening.{all_compared}
use Rattle.type_state.proofs.staying.are_no_narrower.Goals as goal

pub returns : goal.returns
returns c = λ t. all_compared c.args.before.now c.args.widths.now c.loop-part.part c.loop-part.invariant (omega arith)
