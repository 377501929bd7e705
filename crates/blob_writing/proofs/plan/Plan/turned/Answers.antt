use Rattle.blob_writing.proofs.Planning.{turned_is}
use Rattle.blob_writing.proofs.plan.Plan.turned.Goals as goal

pub returns : goal.returns
returns c schemas old new can is = turned_is c.either_way.ensures.chosen schemas old new c.args.self can is
