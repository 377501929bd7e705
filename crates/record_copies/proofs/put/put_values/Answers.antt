use Rattle.std.proofs.Common.{◌+◌, get_or, subst, sym, ℕ, refl, arith}
use Rattle.record_copies.proofs.RecordPuts.{PutSoFar, put_none, put_more, put_all}
use Rattle.record_copies.proofs.put.put_values.Goals as goal

pub loop-index-init : goal.loop-index-init
loop-index-init c = put_none c.args.widths.now c.args.first.now c.args.start c.args.values.now

pub loop-index-preserved : goal.loop-index-preserved
loop-index-preserved c =
    let widths = c.args.widths.now in
    let values = c.args.values.now in
    let index = c.loop-index.index in
    subst (λ (w : ℕ). PutSoFar widths c.args.first.now c.args.start values c.set_element.new.words (index + 1) (c.loop-index.at + w)) (sym c.from-at.ensures)
    (put_more widths c.args.first.now c.args.start values c.loop-index.first c.set_element.new.words index c.loop-index.at c.fixed_element.result (get_or widths index 0) c.index-values-index.result c.loop-index.invariant
    (omega (arith, c.requires.long)) (omega arith) refl c.index-values-index.is c.fixed_element.ensures.gives c.set_element.ensures.is c.set_element.ensures.others)

pub returns : goal.returns
returns c =
    let done = put_all c.args.widths.now c.args.first.now c.args.start c.args.values.now c.loop-index.first c.loop-index.index c.loop-index.at c.loop-index.invariant (omega arith) c.requires.long in
    record { values = done.0; kept = done.1 }
