use Rattle.list_codec.proofs.ListElements.{narrow_ordinals}
use Rattle.list_codec.proofs.faults.Lists.are_ordinals.Goals as goal

pub returns-then-self-le32-clause-tells : goal.returns-then-self-le32-clause-tells
returns-then-self-le32-clause-tells c = narrow_ordinals c.args.self.now.rows.second.now c.args.self.now.width c.args.start c.args.end c.if-self-le32.true
