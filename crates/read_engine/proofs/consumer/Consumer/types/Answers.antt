use Rattle.read_engine.proofs.Consumers.{is_position, schemas_are}
use Rattle.read_engine.proofs.consumer.Consumer.types.Goals as goal

pub returns-clause-schemas : goal.returns-clause-schemas
returns-clause-schemas c = schemas_are c.self.inside.tag c.self.inside.model c.self.inside.states c.self.inside.past c.self.inside.indexes c.self.inside.walks c.self.invariant c.args.self.now c.self.view_is

pub returns-clause-position : goal.returns-clause-position
returns-clause-position c = is_position c.self.inside.tag c.self.inside.model c.self.inside.states c.self.inside.past c.self.inside.indexes c.self.inside.walks c.self.invariant c.args.self.now c.self.view_is
