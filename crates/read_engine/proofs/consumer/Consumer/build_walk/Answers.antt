use Rattle.read_engine.specs.Position.{IsWalkOf, Position}
use Rattle.read_engine.proofs.Consumers.{has_some}
use Rattle.read_engine.proofs.ConsumerIndexes.{closed_at}
use Rattle.read_engine.proofs.Walked.{walk_built, walk_counts, walk_passes}
use Rattle.read_engine.proofs.consumer.Consumer.build_walk.Goals as goal

pub now-requires : goal.now-requires
now-requires g c = has_some c.args.self.now (λ (p : Position). IsWalkOf p.schemas c.args.path) c.requires

pub build-requires : goal.build-requires
build-requires g c = closed_at c.args.self.now c.now.result.schemas c.now.result.table c.now.ensures.schemas c.now.ensures.table c.now.ensures.position

pub returns-clause-kept : goal.returns-clause-kept
returns-clause-kept g c = walk_built c.args.path c.now.result.schemas c.now.result.table c.args.self.now c.now.ensures.schemas c.now.ensures.table c.requires c.build.result c.build.ensures.index c.build.ensures.unreserved

pub returns-clause-many : goal.returns-clause-many
returns-clause-many g c = walk_passes c.args.path c.now.result.schemas c.now.result.table c.args.self.now c.now.ensures.schemas c.now.ensures.table c.build.result c.build.ensures.many

pub returns-clause-counted : goal.returns-clause-counted
returns-clause-counted g c = walk_counts c.args.path c.now.result.schemas c.now.result.table c.args.self.now c.args.path.type_index c.args.steps.now c.build.new.steps c.build.result c.now.ensures.table c.build.ensures.counted
