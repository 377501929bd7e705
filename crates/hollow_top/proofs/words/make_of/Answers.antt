use Rattle.hollow_top.proofs.Orders.{one_make}
use Rattle.hollow_top.proofs.words.make_of.Goals as goal

pub returns : goal.returns
returns c =
    one_make c.args.seed.now c.args.rows.now c.args.cycles.now c.in_ok-seed.seed c.in_ok-rows.rows c.in_ok-cycles.cycles c.in_ok-seed.ensures c.in_ok-rows.ensures c.in_ok-cycles.ensures
