use Rattle.read_engine.specs.Indexes.{index_by}
use Rattle.read_engine.specs.Kept.{index_kept}
use Rattle.read_engine.proofs.Places.{NoneBelow}
use Rattle.read_engine.proofs.indexes.place_of.Given as goal

abbrev pub invariant-loop-place : goal.invariant-loop-place
invariant-loop-place l = NoneBelow index_kept l.indexes (index_by l.type_index l.paths) l.place
