use Rattle.json_values.proofs.ItemLists.{all_stand, one_stands_not, stand_more}
use Rattle.std.proofs.Common.{sym, arith}
use Rattle.json_values.proofs.json_form.each_is_form.Goals as goal

pub returns-then-not-is_form : goal.returns-then-not-is_form
returns-then-not-is_form g c =
    one_stands_not g.T.JsonForm.stands c.args.values.now c.loop-value.value-index c.value-item.result c.loop-value-test.true (sym c.value-item.is)
    (λ found. let good = c.is_form.ensures.1 found in let bad = c.if-not-is_form.true in absurd cc)

pub loop-value-preserved : goal.loop-value-preserved
loop-value-preserved g c =
    stand_more g.T.JsonForm.stands c.args.values.now c.loop-value.value-index c.value-item.result c.loop-value-test.true c.value-item.is
    (c.is_form.ensures.0 c.if-not-is_form.false) c.loop-value.invariant

pub returns : goal.returns
returns g c = all_stand g.T.JsonForm.stands c.args.values.now (λ k d below. c.loop-value.invariant k d (omega arith))
