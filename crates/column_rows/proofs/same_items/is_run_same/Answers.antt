use Rattle.column_rows.proofs.Lives.{run_ranges, run_there}
use Rattle.column_rows.proofs.SameRows.{run_both}
use Rattle.column_rows.proofs.same_items.is_run_same.Goals as goal

pub buckets-requires-2 : goal.buckets-requires-2
buckets-requires-2 g c =
    let live = (c.requires.live c.args.ordinal).0 (c.is_live.ensures.0 c.if-not-is_live.false) in
    run_there (g.B.Rows.table c.args.others.now) c.args.type_index c.args.ordinal c.args.beside.now c.requires.beside_of live

pub are_buckets_same-requires-clause-ranges : goal.are_buckets_same-requires-clause-ranges
are_buckets_same-requires-clause-ranges g c =
    run_ranges (g.A.Rows.table c.args.rows.now) c.args.type_index c.args.ordinal c.args.runs.now c.in-Some.buckets c.requires.runs_of (c.is_live.ensures.0 c.if-not-is_live.false) c.in-Some.ensures

pub are_buckets_same-requires-clause-other_ranges : goal.are_buckets_same-requires-clause-other_ranges
are_buckets_same-requires-clause-other_ranges g c =
    let live = (c.requires.live c.args.ordinal).0 (c.is_live.ensures.0 c.if-not-is_live.false) in
    run_ranges (g.B.Rows.table c.args.others.now) c.args.type_index c.args.ordinal c.args.beside.now c.in-Some-buckets.other_buckets c.requires.beside_of live c.in-Some-buckets.ensures

pub returns : goal.returns
returns g c = λ same.
    run_both (g.A.Rows.table c.args.rows.now) (g.B.Rows.table c.args.others.now) c.args.type_index c.args.ordinal c.one_set.ensures c.args.runs.now c.args.beside.now c.in-Some.buckets c.in-Some-buckets.other_buckets
    c.requires.runs_of c.requires.beside_of c.in-Some.ensures c.in-Some-buckets.ensures (c.are_buckets_same.ensures same)
