use Rattle.std.proofs.Common.{◌≡◌, ◌∙◌, ◌+◌, ℕ, true, false, length, sym, ap, subst, arith}
use Rattle.write_engine.specs.Cycle.{no_rows}
use Rattle.hol_incremental.specs.Counted.{CountsTo}
use Rattle.hol_incremental.specs.declared.tally.Tally.{Tally}
use Rattle.hol_incremental.proofs.CountedRows.{none_dead, none_part, read_none, read_row, read_type}
use Rattle.hol_incremental.proofs.SumLists.{types_added}
use Rattle.hol_incremental.proofs.counting.count_type.Goals.{then-is_live+in_ok-count_row, else-is_live}
use Rattle.hol_incremental.proofs.counting.count_type.Goals as goal

pub loop-ordinal-preserved : goal.loop-ordinal-preserved
loop-ordinal-preserved g c =
    let S = g.R.Rows.schemas c.args.rows.now in
    let W = g.R.Rows.table c.args.rows.now in
    let B = no_rows (length S) in
    let t = c.args.type_index in
    let o = c.loop-ordinal.ordinal in
    let inv = c.loop-ordinal.invariant in
    elim c.if-is_live.branch [
      | then-is_live+in_ok-count_row w ↦ record {
        types = ap (λ (x : Tally). length x.counts) w.tally-is ∙ w.in_ok-count_row.ensures.types ∙ inv.types;
        sums = ap (λ (x : Tally). length x.sums.items) w.tally-is ∙ types_added S W t o c.loop-ordinal.tally.sums.items w.count_row.new.tally.sums.items (c.is_live.ensures.0 w.if-is_live.true) w.in_ok-count_row.ensures.sums ∙ inv.sums;
        read = λ start first.
            subst (λ (n : ℕ). CountsTo S B W t (o + 1) start c.if-is_live.tally.counts c.if-is_live.tally.sums.items n) (sym (w.steps-is ∙ w.in_ok-count_row.ensures.counted))
            (subst (λ (x : Tally). CountsTo S B W t (o + 1) start x.counts x.sums.items (c.loop-ordinal.steps + 1)) (sym w.tally-is)
            (read_row S B W (none_part (length S) W) t o start c.loop-ordinal.steps c.loop-ordinal.tally.counts w.count_row.new.tally.counts c.loop-ordinal.tally.sums.items w.count_row.new.tally.sums.items c.requires.known c.requires.fits.types (c.is_live.ensures.0 w.if-is_live.true) (none_dead (length S) t o)
            (inv.read start first) w.in_ok-count_row.ensures.types w.in_ok-count_row.ensures.raised w.in_ok-count_row.ensures.sums));
      }
      | else-is_live w ↦ record {
        types = ap (λ (x : Tally). length x.counts) w.tally-is ∙ inv.types;
        sums = ap (λ (x : Tally). length x.sums.items) w.tally-is ∙ inv.sums;
        read = λ start first.
            subst (λ (n : ℕ). CountsTo S B W t (o + 1) start c.if-is_live.tally.counts c.if-is_live.tally.sums.items n) (sym w.steps-is)
            (subst (λ (x : Tally). CountsTo S B W t (o + 1) start x.counts x.sums.items c.loop-ordinal.steps) (sym w.tally-is)
            (read_none S B W (none_part (length S) W) t o start c.loop-ordinal.steps c.loop-ordinal.tally.counts c.loop-ordinal.tally.sums.items (λ live. (let both : true ≡ false = sym (c.is_live.ensures.1 live) ∙ w.if-is_live.false in cc)) (inv.read start first)));
      }
    ]

pub returns : goal.returns
returns g c start first =
    let S = g.R.Rows.schemas c.args.rows.now in
    let W = g.R.Rows.table c.args.rows.now in
    let B = no_rows (length S) in
    let high = c.loop-ordinal-test.false in
    let low = c.loop-ordinal.auto.ordinal-end in
    let end : c.loop-ordinal.ordinal ≡ c.bound-ordinal-end.result = omega (arith, high, low) in
    read_type S B W (none_part (length S) W) c.args.type_index c.bound-ordinal-end.result start c.loop-ordinal.steps c.loop-ordinal.tally.counts c.loop-ordinal.tally.sums.items c.bound-ordinal-end.ensures
    (subst (λ (n : ℕ). CountsTo S B W c.args.type_index n start c.loop-ordinal.tally.counts c.loop-ordinal.tally.sums.items c.loop-ordinal.steps) end (c.loop-ordinal.invariant.read start first))
