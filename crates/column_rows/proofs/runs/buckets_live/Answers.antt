use Rattle.std.proofs.Common.{arith}
use Rattle.column_rows.proofs.Lives.{all_buckets}
use Rattle.column_rows.proofs.runs.buckets_live.Goals as goal

pub returns : goal.returns
returns g c = λ done. all_buckets (g.R.Rows.table c.args.rows.now) c.args.key c.args.value c.args.buckets.now (λ k inside. c.loop-index.invariant k (omega (arith, inside)))
