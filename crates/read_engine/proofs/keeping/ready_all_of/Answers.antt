use Rattle.std.proofs.Common.{arith, rules}
use Rattle.read_engine.proofs.Follow.{all_counted}
use Rattle.read_engine.proofs.keeping.ready_all_of.Goals as goal

pub returns-clause-least : goal.returns-clause-least
returns-clause-least g c =
    let all = all_counted c.args.rows.now.schemas c.args.rows.now.table c.args.past.now c.ready_all.new.indexes c.args.indexes.now c.ready_all.ensures.kept c.in_ok-ready_all.ensures.ready in
    search rules
