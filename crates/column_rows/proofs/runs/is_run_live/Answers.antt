use Rattle.column_rows.proofs.Lives.{run_live, run_ranges}
use Rattle.column_rows.proofs.runs.is_run_live.Goals as goal

pub buckets_live-requires : goal.buckets_live-requires
buckets_live-requires g c = run_ranges (g.R.Rows.table c.args.rows.now) c.args.type_index c.args.ordinal c.args.runs.now c.in-Some.buckets c.requires (c.is_live.ensures.0 c.if-not-is_live.false) c.in-Some.ensures

pub returns : goal.returns
returns g c = λ done. run_live (g.R.Rows.table c.args.rows.now) c.args.type_index c.args.key c.args.value c.args.ordinal c.args.runs.now c.in-Some.buckets c.requires c.in-Some.ensures (c.buckets_live.ensures done)
