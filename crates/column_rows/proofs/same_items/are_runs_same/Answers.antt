use Rattle.std.proofs.Common.{below_more, ℕ}
use Rattle.column_rows.specs.Same.{HaveSamePairs, IsSoOfBoth}
use Rattle.column_rows.proofs.same_items.are_runs_same.Goals as goal

pub loop-ordinal-preserved : goal.loop-ordinal-preserved
loop-ordinal-preserved g c =
    below_more (λ (o : ℕ). IsSoOfBoth HaveSamePairs (g.A.Rows.table c.args.rows.now) (g.B.Rows.table c.args.others.now) c.args.type_index o) c.loop-ordinal.ordinal c.loop-ordinal.invariant
    (c.is_run_same.ensures c.if-not-is_run_same.false)
