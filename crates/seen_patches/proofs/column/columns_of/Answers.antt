use Rattle.std.proofs.Common.{◌∙◌, ℕ, ◌+◌, ap, arith}
use Rattle.seen_patches.proofs.ColumnElements.{columns_step}
use Rattle.seen_patches.proofs.column.columns_of.Goals as goal

pub loop-width-preserved : goal.loop-width-preserved
loop-width-preserved c =
    let step = columns_step c.total_width-size.result c.loop-width.before c.args.widths.now c.loop-width.width-index c.loop-width.columns.items (omega arith) c.loop-width.invariant.0 c.loop-width.invariant.1 in
    (c.in_ok-push.ensures.items ∙ step.0, ap (λ (w : ℕ). c.loop-width.before + w) c.from-before.ensures ∙ step.1)
