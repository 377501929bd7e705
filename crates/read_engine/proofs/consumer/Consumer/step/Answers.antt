use Rattle.read_engine.proofs.Exactly.{all_steps_exactly}
use Rattle.read_engine.proofs.consumer.Consumer.step.Goals as goal

pub returns-clause-exact : goal.returns-clause-exact
returns-clause-exact g c = all_steps_exactly c.args.name.now (g.S.BlobStore.seen c.args.store.now).held c.args.self.now c.step.new.consumer c.step.result c.step.ensures.position c.step.ensures.tells
