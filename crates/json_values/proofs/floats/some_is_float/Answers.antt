use Rattle.std.proofs.Common.{refl}
use Rattle.json_values.specs.SchemasFrom.{IsFloatField}
use Rattle.json_values.proofs.ItemLists.{one_among, none_among, lacks_more}
use Rattle.json_values.proofs.floats.some_is_float.Goals as goal

pub returns-then-is_float : goal.returns-then-is_float
returns-then-is_float c = (
  λ yes. (
    c.loop-field.field-index,
    one_among IsFloatField c.args.fields.now c.loop-field.field-index c.field-item.result c.loop-field-test.true c.field-item.is
        (c.is_float.ensures.0 c.if-is_float.true),
  ),
  λ found. refl,
)

pub loop-field-preserved : goal.loop-field-preserved
loop-field-preserved c =
    lacks_more IsFloatField c.args.fields.now c.loop-field.field-index c.field-item.result c.loop-field-test.true c.field-item.is
    (λ h. let good = c.is_float.ensures.1 h in let bad = c.if-is_float.false in absurd cc) c.loop-field.invariant

pub returns : goal.returns
returns c = (
  λ yes. absurd cc,
  λ found. absurd (none_among IsFloatField c.args.fields.now c.loop-field.field-index c.loop-field-test.false c.loop-field.invariant found.0 found.1),
)
