use Rattle.std.proofs.Common.{◌≡◌, length, ap, arith}
use Rattle.hol_incremental.proofs.CountedRows.{read_all, read_start}
use Rattle.hol_incremental.proofs.counting.count_beside.Goals as goal

pub loop-type_index-init : goal.loop-type_index-init
loop-type_index-init g c =
    read_start (g.A.Rows.schemas c.args.rows.now) (g.B.Rows.table c.args.before.now) (g.A.Rows.table c.args.rows.now) c.requires.more c.args.tally.now.counts c.args.tally.now.sums.items c.args.steps.now c.requires.types
    c.requires.counts c.requires.sums

pub loop-type_index-preserved : goal.loop-type_index-preserved
loop-type_index-preserved g c = c.in_ok-count_type_beside.ensures c.args.steps.now c.loop-type_index.invariant

pub returns : goal.returns
returns g c =
    let W = g.A.Rows.table c.args.rows.now in
    let high = c.loop-type_index-test.false in
    let low = c.loop-type_index.auto.type_index-end in
    let count = c.len-type_index-end.ensures.count in
    let all = ap (λ s. length s) c.model.ensures.model in
    let types = c.model.ensures.fits.types in
    let end : c.loop-type_index.type_index ≡ length W = omega (arith, high, low, count, all, types) in
    read_all (g.A.Rows.schemas c.args.rows.now) (g.B.Rows.table c.args.before.now) W c.requires.more c.loop-type_index.type_index c.args.steps.now c.loop-type_index.steps c.loop-type_index.tally.counts c.loop-type_index.tally.sums.items end c.loop-type_index.invariant
