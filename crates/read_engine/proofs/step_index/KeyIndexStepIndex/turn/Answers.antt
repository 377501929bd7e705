use Rattle.read_engine.proofs.Follow.{moves_on}
use Rattle.read_engine.proofs.step_index.KeyIndexStepIndex.turn.Goals as goal

pub returns : goal.returns
returns c = moves_on c.args.self.now c.update.new.self c.update.ensures.updated c.update.ensures.kept c.update.ensures.unreserved
