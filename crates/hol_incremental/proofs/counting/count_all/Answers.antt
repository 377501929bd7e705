use Rattle.std.proofs.Common.{◌≡◌, ◌∙◌, ℕ, List, length, sym, ap, subst, arith}
use Rattle.std.specs.FinMap.{empty}
use Rattle.std.proofs.lemmas.List.{length-replicate}
use Rattle.write_engine.specs.Cycle.{no_rows}
use Rattle.hol_incremental.specs.EditKeys.{AreCounts}
use Rattle.hol_incremental.proofs.CountedRows.{none_counted, none_part, read_all, read_start}
use Rattle.hol_incremental.proofs.counting.count_all.Goals as goal

pub loop-type_index-init : goal.loop-type_index-init
loop-type_index-init g c =
    let S = g.R.Rows.schemas c.args.rows.now in
    let W = g.R.Rows.table c.args.rows.now in
    read_start S (no_rows (length S)) W (none_part (length S) W) c.args.tally.now.counts c.args.tally.now.sums.items c.args.steps.now (length-replicate (length S) empty ∙ sym c.model.ensures.fits.types)
    (subst (λ (x : List (List ℕ)). AreCounts S (no_rows (length S)) x) (sym c.requires.none) (none_counted S)) c.requires.sums

pub loop-type_index-preserved : goal.loop-type_index-preserved
loop-type_index-preserved g c = c.in_ok-count_type.ensures c.args.steps.now c.loop-type_index.invariant

pub returns : goal.returns
returns g c =
    let S = g.R.Rows.schemas c.args.rows.now in
    let W = g.R.Rows.table c.args.rows.now in
    let high = c.loop-type_index-test.false in
    let low = c.loop-type_index.auto.type_index-end in
    let count = c.len-type_index-end.ensures.count in
    let all = ap (λ s. length s) c.model.ensures.model in
    let types = c.model.ensures.fits.types in
    let end : c.loop-type_index.type_index ≡ length W = omega (arith, high, low, count, all, types) in
    read_all S (no_rows (length S)) W (none_part (length S) W) c.loop-type_index.type_index c.args.steps.now c.loop-type_index.steps c.loop-type_index.tally.counts c.loop-type_index.tally.sums.items end c.loop-type_index.invariant
