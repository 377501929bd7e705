use Rattle.std.specs.Prelude.{Contains}
use Rattle.hol_history.specs.History.{versions}
use Rattle.hollow_machine.specs.HistoryOrders.{ShowsOld}
use Rattle.history_orders.proofs.Versions.{closed_old, of_none}
use Rattle.history_orders.proofs.was_order.was_old.Goals as goal

pub returns-then-not-reaches-clause-reply : goal.returns-then-not-reaches-clause-reply
returns-then-not-reaches-clause-reply g c =
    let never : ¬ Contains (versions c.args.history.now.steps) c.args.wanted = λ among. (let seen = c.reaches.ensures.1 among in let not = c.if-not-reaches.true in absurd cc) in
    λ now same. of_none (g.R.Rows.table c.args.rows.now) c.args.history.now.steps c.args.wanted c.args.name.now (ShowsOld c.args.name.now c.args.ordinal) never now

pub was_in-requires : goal.was_in-requires
was_in-requires g c = record {
  closed =
      closed_old (g.R.Rows.schemas c.args.rows.now) c.then.result.schemas (g.R.Rows.table c.args.rows.now) c.then.result.table c.args.history.now.steps c.args.wanted c.requires.closed
      c.then.ensures.schemas c.then.ensures.table;
}
