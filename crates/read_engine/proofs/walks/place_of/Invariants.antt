use Rattle.hol_paths.specs.Walked.{Walked}
use Rattle.read_engine.proofs.Places.{NoneBelow}
use Rattle.read_engine.proofs.walks.place_of.Given as goal

abbrev pub invariant-loop-place : goal.invariant-loop-place
invariant-loop-place l = NoneBelow (λ (walked : Walked). walked.path) l.walks l.path l.place
