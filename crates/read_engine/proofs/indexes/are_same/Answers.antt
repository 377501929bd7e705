use Rattle.std.proofs.Common.{refl, arith}
use Rattle.read_engine.proofs.Places.{same_lists}
use Rattle.read_engine.proofs.indexes.are_same.Goals as goal

pub returns : goal.returns
returns c = (λ _. same_lists c.args.paths.now c.args.others.now (omega arith) (λ k inside. c.loop-place.invariant k (omega (arith, inside))), λ _. refl)
