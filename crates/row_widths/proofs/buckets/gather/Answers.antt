use Rattle.std.proofs.Common.{ap}
use Rattle.std.specs.Option.{option_map}
use Rattle.row_model.specs.Lent.{lent_row}
use Rattle.row_widths.proofs.BucketSpreads.{gathered_more, gathered_all}
use Rattle.row_widths.proofs.buckets.gather.Goals as goal

pub returns : goal.returns
returns g c =
    gathered_all _ _ _ _ c.loop-lent.spread.buckets c.loop-lent.spread.size c.loop-lent.spread.key c.loop-lent.spread.value c.loop-lent.invariant c.in_ok-lent.ensures
    (ap (option_map lent_row) c.in_default.is)

pub loop-lent-preserved : goal.loop-lent-preserved
loop-lent-preserved g c =
    gathered_more _ _ _ _ c.in-Some.lent c.row.result.now c.loop-lent.spread.buckets c.loop-lent.spread.size c.loop-lent.spread.key c.loop-lent.spread.value _ _ _ _ c.loop-lent.invariant c.in_ok-lent.ensures
    c.in-Some.is c.row.ensures c.with-spread.ensures.buckets c.with-spread.ensures.size c.with-spread.ensures.key c.with-spread.ensures.value

pub loop-lent-preserved-in-Some : goal.loop-lent-preserved-in-Some
loop-lent-preserved-in-Some g c =
    gathered_more _ _ _ _ c.in-Some.lent c.row.result.now c.loop-lent.spread.buckets c.loop-lent.spread.size c.loop-lent.spread.key c.loop-lent.spread.value _ _ _ _ c.loop-lent.invariant c.in_ok-lent.ensures
    c.in-Some.is c.row.ensures c.with-spread.ensures.buckets c.with-spread.ensures.size c.with-spread.ensures.key c.with-spread.ensures.value

pub loop-lent-preserved-in-Some-2 : goal.loop-lent-preserved-in-Some-2
loop-lent-preserved-in-Some-2 g c =
    gathered_more _ _ _ _ c.in-Some.lent c.row.result.now c.loop-lent.spread.buckets c.loop-lent.spread.size c.loop-lent.spread.key c.loop-lent.spread.value _ _ _ _ c.loop-lent.invariant c.in_ok-lent.ensures
    c.in-Some.is c.row.ensures c.with-spread.ensures.buckets c.with-spread.ensures.size c.with-spread.ensures.key c.with-spread.ensures.value

pub loop-lent-preserved-in-Some-3 : goal.loop-lent-preserved-in-Some-3
loop-lent-preserved-in-Some-3 g c =
    gathered_more _ _ _ _ c.in-Some.lent c.row.result.now c.loop-lent.spread.buckets c.loop-lent.spread.size c.loop-lent.spread.key c.loop-lent.spread.value _ _ _ _ c.loop-lent.invariant c.in_ok-lent.ensures
    c.in-Some.is c.row.ensures c.with-spread.ensures.buckets c.with-spread.ensures.size c.with-spread.ensures.key c.with-spread.ensures.value

pub loop-lent-preserved-in-Some-4 : goal.loop-lent-preserved-in-Some-4
loop-lent-preserved-in-Some-4 g c =
    gathered_more _ _ _ _ c.in-Some.lent c.row.result.now c.loop-lent.spread.buckets c.loop-lent.spread.size c.loop-lent.spread.key c.loop-lent.spread.value _ _ _ _ c.loop-lent.invariant c.in_ok-lent.ensures
    c.in-Some.is c.row.ensures c.with-spread.ensures.buckets c.with-spread.ensures.size c.with-spread.ensures.key c.with-spread.ensures.value
