use Rattle.read_engine.proofs.Consumers.{tag_is}
use Rattle.read_engine.proofs.consumer.Consumer.tag.Goals as goal

pub returns : goal.returns
returns c = tag_is c.self.inside.tag c.self.inside.model c.self.inside.states c.self.inside.past c.self.inside.indexes c.self.inside.walks c.self.invariant c.args.self.now c.self.view_is
