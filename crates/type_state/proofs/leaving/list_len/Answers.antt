use Rattle.type_state.proofs.LeavingRows.{list_counted}
use Rattle.type_state.proofs.leaving.list_len.Goals as goal

pub returns : goal.returns
returns c = λ row there. list_counted c.args.items.now c.args.ordinal c.from.result row c.length.result c.from.ensures there c.length.ensures
