use Rattle.schema_growth.proofs.Growths.{kind_here}
use Rattle.schema_growth.proofs.agreement.kind_agrees.Goals as goal

pub returns-then-same_name : goal.returns-then-same_name
returns-then-same_name c =
    kind_here c.args.field.now c.args.others.now c.args.place c.index-others-place.result c.index-others-place-then-same_name.result c.same_kind.result c.requires c.if-place-others.true
    (c.same_name.ensures.0 c.if-same_name.true) c.same_kind.ensures
