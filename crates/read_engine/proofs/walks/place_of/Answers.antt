use Rattle.std.proofs.Common.{◌≡◌, length, subst, arith}
use Rattle.hol_paths.specs.Walked.{Walked}
use Rattle.read_engine.proofs.Places.{NoneBelow, none_there}
use Rattle.read_engine.proofs.walks.place_of.Goals as goal

pub returns : goal.returns
returns c =
    let all : c.loop-place.place ≡ length c.args.walks.now = omega arith in
    none_there (λ (walked : Walked). walked.path) c.args.walks.now c.args.path.now (subst (NoneBelow (λ (walked : Walked). walked.path) c.args.walks.now c.args.path.now) all c.loop-place.invariant)
