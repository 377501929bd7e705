use Rattle.std.proofs.Common.{ℕ, arith, below_more, subst}
use Rattle.column_rows.specs.Closed.{ListNamesLive}
use Rattle.column_rows.specs.Looked.{ordinal_of}
use Rattle.column_rows.proofs.Lives.{dead_list}
use Rattle.column_rows.proofs.LookedAt.{all_looked}
use Rattle.column_rows.proofs.runs.lists_live.Goals as goal

pub loop-index-preserved : goal.loop-index-preserved
loop-index-preserved g c =
    below_more (λ (k : ℕ). ListNamesLive (g.R.Rows.table c.args.rows.now) c.args.type_index c.args.target (ordinal_of c.args.looked k)) c.loop-index.index c.loop-index.invariant
    (subst (λ (ordinal : ℕ). ListNamesLive (g.R.Rows.table c.args.rows.now) c.args.type_index c.args.target ordinal) c.ordinal-ordinal.ensures (c.is_list_live.ensures c.if-not-is_list_live.false))

pub returns : goal.returns
returns g c = λ done.
    all_looked (λ (ordinal : ℕ). ListNamesLive (g.R.Rows.table c.args.rows.now) c.args.type_index c.args.target ordinal) (g.R.Rows.table c.args.rows.now) c.args.type_index c.bound.result c.loop-index.index c.args.looked c.bound.ensures
    (omega (arith, c.count-count.ensures.count)) (λ (ordinal : ℕ) dead. dead_list (g.R.Rows.table c.args.rows.now) c.args.type_index c.args.target ordinal dead) c.loop-index.invariant
