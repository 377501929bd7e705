use Rattle.std.proofs.Common.{below_more, arith}
use Rattle.schema_growth.proofs.Growing.{grows_all, grows_here, not_here}
use Rattle.schema_growth.proofs.growth.grows.Goals as goal

pub loop-type_index-preserved : goal.loop-type_index-preserved
loop-type_index-preserved c =
    below_more _ _ c.loop-type_index.invariant (grows_here c.args.model.now c.args.grown.now _ _ c.schema.ensures.value (c.has_grown.ensures.0 c.if-not-has_grown.false))

pub returns-then-not-has_grown : goal.returns-then-not-has_grown
returns-then-not-has_grown c = record {
  not = not_here c.args.model.now c.args.grown.now _ _ c.schema.ensures.value _ c.has_grown.ensures c.if-not-has_grown.true;
  first = c.loop-type_index.invariant;
}

pub returns : goal.returns
returns c = grows_all c.args.model.now c.args.grown.now c.loop-type_index.type_index (omega (arith, c.loop-type_index-test.false, c.loop-type_index.auto.type_index-end, c.len-type_index-end.ensures.count)) c.loop-type_index.invariant
