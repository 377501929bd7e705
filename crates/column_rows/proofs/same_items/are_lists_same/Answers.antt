use Rattle.std.proofs.Common.{below_more, ℕ}
use Rattle.column_rows.specs.Same.{HaveSameElements, IsSoOfBoth}
use Rattle.column_rows.proofs.same_items.are_lists_same.Goals as goal

pub loop-ordinal-preserved : goal.loop-ordinal-preserved
loop-ordinal-preserved g c =
    below_more (λ (o : ℕ). IsSoOfBoth HaveSameElements (g.A.Rows.table c.args.rows.now) (g.B.Rows.table c.args.others.now) c.args.type_index o) c.loop-ordinal.ordinal c.loop-ordinal.invariant
    (c.is_list_same.ensures c.if-not-is_list_same.false)
