use Rattle.std.proofs.Common.{ap}
use Rattle.std.specs.Option.{option_map}
use Rattle.row_model.specs.Lent.{lent_row}
use Rattle.row_widths.proofs.ListSpreads.{gathered_more, gathered_all}
use Rattle.row_widths.proofs.lists.gather.Goals as goal

pub returns-clause-count : goal.returns-clause-count
returns-clause-count g c =
    (gathered_all _ _ _ _ c.loop-lent.spread.count c.loop-lent.spread.greatest c.loop-lent.invariant c.in_ok-lent.ensures (ap (option_map lent_row) c.in_default.is)).0

pub returns-clause-greatest : goal.returns-clause-greatest
returns-clause-greatest g c =
    (gathered_all _ _ _ _ c.loop-lent.spread.count c.loop-lent.spread.greatest c.loop-lent.invariant c.in_ok-lent.ensures (ap (option_map lent_row) c.in_default.is)).1

pub loop-lent-preserved-in-Some-2 : goal.loop-lent-preserved-in-Some-2
loop-lent-preserved-in-Some-2 g c =
    gathered_more _ _ _ _ c.in-Some.lent c.row.result.now c.loop-lent.spread.count c.loop-lent.spread.greatest _ _ c.loop-lent.invariant c.in_ok-lent.ensures c.in-Some.is c.row.ensures
    c.with-spread.ensures.count c.with-spread.ensures.greatest

pub loop-lent-preserved : goal.loop-lent-preserved
loop-lent-preserved g c =
    gathered_more _ _ _ _ c.in-Some.lent c.row.result.now c.loop-lent.spread.count c.loop-lent.spread.greatest _ _ c.loop-lent.invariant c.in_ok-lent.ensures c.in-Some.is c.row.ensures
    c.with-spread.ensures.count c.with-spread.ensures.greatest
