use Rattle.std.specs.Prelude.{Contains}
use Rattle.serde_json.specs.View.{view}
use Rattle.hol_history.specs.History.{versions}
use Rattle.hollow_machine.specs.HistoryOrders.{ShowsOldKey}
use Rattle.history_orders.proofs.Candidates.{is_older}
use Rattle.history_orders.proofs.Versions.{closed_old, of_none}
use Rattle.history_orders.proofs.was_get_order.was_get_old.Goals as goal

pub returns-then-not-reaches-clause-reply : goal.returns-then-not-reaches-clause-reply
returns-then-not-reaches-clause-reply g c =
    let never : ¬ Contains (versions c.args.history.now.steps) c.args.wanted = λ among. (let seen = c.reaches.ensures.1 among in let not = c.if-not-reaches.true in absurd cc) in
    λ now same. of_none (g.R.Rows.table c.args.rows.now) c.args.history.now.steps c.args.wanted c.args.name.now (ShowsOldKey c.args.name.now (view c.args.values.now)) never now

pub was_get_in-requires : goal.was_get_in-requires
was_get_in-requires g c =
    let schemas = g.R.Rows.schemas c.args.rows.now in
    let table = g.R.Rows.table c.args.rows.now in
    let reached : Contains (versions c.args.history.now.steps) c.args.wanted = c.reaches.ensures.0 c.if-not-reaches.false in record {
      seek =
          is_older c.args.consumer.now c.args.history.now.steps c.args.wanted schemas c.then.result.schemas table c.then.result.table c.requires.now c.requires.now_closed c.requires.stands
          c.requires.closed reached c.then.ensures.schemas c.then.ensures.table;
      closed = closed_old schemas c.then.result.schemas table c.then.result.table c.args.history.now.steps c.args.wanted c.requires.closed c.then.ensures.schemas c.then.ensures.table;
    }
