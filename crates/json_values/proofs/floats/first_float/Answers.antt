use Rattle.json_values.specs.SchemasFrom.{HasFloat}
use Rattle.json_values.proofs.ItemLists.{one_among, none_among, none_before, lacks_more}
use Rattle.json_values.proofs.floats.first_float.Goals as goal

pub returns-then-has_float : goal.returns-then-has_float
returns-then-has_float c = (
  one_among HasFloat c.args.schemas.now c.loop-type_index.type_index c.index-schemas-type_index.result c.loop-type_index-test.true c.index-schemas-type_index.is
      (c.has_float.ensures.0 c.if-has_float.true),
  λ u below some. none_before HasFloat c.args.schemas.now c.loop-type_index.type_index c.loop-type_index.invariant u below some,
)

pub loop-type_index-preserved : goal.loop-type_index-preserved
loop-type_index-preserved c =
    lacks_more HasFloat c.args.schemas.now c.loop-type_index.type_index c.index-schemas-type_index.result c.loop-type_index-test.true c.index-schemas-type_index.is
    (λ h. let good = c.has_float.ensures.1 h in let bad = c.if-has_float.false in absurd cc) c.loop-type_index.invariant

pub returns : goal.returns
returns c = none_among HasFloat c.args.schemas.now c.loop-type_index.type_index c.loop-type_index-test.false c.loop-type_index.invariant
