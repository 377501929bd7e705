use Rattle.std.proofs.Common.{◌<◌, length}
use Rattle.read_engine.specs.Position.{Position}
use Rattle.read_engine.proofs.Consumers.{has_some}
use Rattle.read_engine.proofs.ConsumerIndexes.{built_at, closed_at, counts_at, resolved_at, there_at}
use Rattle.read_engine.proofs.consumer.Consumer.build_index.Goals as goal

pub now-requires : goal.now-requires
now-requires g c = has_some c.args.self.now (λ (p : Position). c.args.type_index < length p.schemas) c.requires.type_there

pub build-requires-clause-type_there : goal.build-requires-clause-type_there
build-requires-clause-type_there g c = there_at c.args.self.now c.now.result.schemas c.args.type_index c.now.ensures.schemas c.requires.type_there

pub build-requires-clause-closed : goal.build-requires-clause-closed
build-requires-clause-closed g c = closed_at c.args.self.now c.now.result.schemas c.now.result.table c.now.ensures.schemas c.now.ensures.table c.now.ensures.position

pub build-requires-clause-resolved : goal.build-requires-clause-resolved
build-requires-clause-resolved g c = resolved_at c.args.self.now c.now.result.schemas c.args.type_index c.args.paths c.now.ensures.schemas c.requires.resolved

pub returns-clause-kept : goal.returns-clause-kept
returns-clause-kept g c =
    built_at c.args.self.now c.now.result.schemas c.now.result.table c.args.type_index c.args.paths c.now.ensures.schemas c.now.ensures.table c.requires.type_there c.requires.resolved c.build.result c.build.ensures.index c.build.ensures.unreserved

pub returns-clause-counted : goal.returns-clause-counted
returns-clause-counted g c = counts_at c.args.self.now c.now.result.table c.args.type_index c.args.steps.now c.build.new.steps c.build.result c.now.ensures.table c.build.ensures.counted
