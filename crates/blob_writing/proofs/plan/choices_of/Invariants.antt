-- What is chosen for the types that were passed.
use Rattle.std.proofs.Common.{◌≡◌, take, map}
use Rattle.blob_writing.proofs.plan.choices_of.Given as goal

abbrev pub invariant-loop-one : goal.invariant-loop-one
invariant-loop-one l = l.choices ≡ map (λ one. one.chosen) (take l.one-index l.measured)
