use Rattle.std.proofs.Common.{arith}
use Rattle.type_state.proofs.Comings.{below_last}
use Rattle.type_state.proofs.planning.first_bound.Goals as goal

pub returns-in-Some-clause-added : goal.returns-in-Some-clause-added
returns-in-Some-clause-added c = λ k d inside.
    (let low = below_last c.args.differences.now c.in-Some.last.now c.as_slice.result.now c.requires.apart c.as_slice.ensures c.in-Some.ensures.value k d inside in omega (arith, low, c.max.ensures))
