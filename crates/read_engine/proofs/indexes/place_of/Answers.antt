use Rattle.std.proofs.Common.{◌≡◌, length, subst, arith}
use Rattle.read_engine.specs.Indexes.{index_by}
use Rattle.read_engine.specs.Kept.{index_kept}
use Rattle.read_engine.proofs.Places.{NoneBelow, none_there}
use Rattle.read_engine.proofs.indexes.place_of.Goals as goal

pub returns : goal.returns
returns c =
    let all : c.loop-place.place ≡ length c.args.indexes.now = omega arith in
    none_there index_kept c.args.indexes.now (index_by c.args.type_index c.args.paths.now) (subst (NoneBelow index_kept c.args.indexes.now (index_by c.args.type_index c.args.paths.now)) all c.loop-place.invariant)
