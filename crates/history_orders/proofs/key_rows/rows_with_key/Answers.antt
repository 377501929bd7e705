use Rattle.std.proofs.Common.{◌+◌, sym, subst}
use Rattle.history_orders.proofs.Matching.{AreMatchesBelow, one_matched, one_passed}
use Rattle.history_orders.proofs.key_rows.rows_with_key.Goals.{then-branch+in_ok-push, else-branch}
use Rattle.history_orders.proofs.key_rows.rows_with_key.Goals as goal

pub loop-ordinal-preserved : goal.loop-ordinal-preserved
loop-ordinal-preserved g c =
    let S = g.R.Rows.schemas c.args.rows.now in
    let T = g.R.Rows.table c.args.rows.now in
    let more = AreMatchesBelow S T c.args.type_index c.args.paths.now c.args.key.now (c.loop-ordinal.ordinal + 1) in
    elim c.if-branch.branch [
      | then-branch+in_ok-push w ↦
          subst more (sym w.ordinals-is) (subst more (sym w.in_ok-push.ensures.ok)
          (one_matched S T c.args.type_index c.args.paths.now c.args.key.now c.loop-ordinal.ordinal c.loop-ordinal.ordinals c.loop-ordinal.invariant (c.in_ok-is_match.ensures.0 w.if-branch.true)))
      | else-branch w ↦
          subst more (sym w.ordinals-is) (one_passed S T c.args.type_index c.args.paths.now c.args.key.now c.loop-ordinal.ordinal c.loop-ordinal.ordinals c.loop-ordinal.invariant
          (λ here. let seen = c.in_ok-is_match.ensures.1 here in let not = w.if-branch.false in absurd cc))
    ]
