use Rattle.model_paths.proofs.Walking.{field_pushed, fields_pushed}
use Rattle.schema_model.proofs.Ways.{none_deep}
use Rattle.model_paths.proofs.walk_steps.walk_on.Goals as goal

pub follow_only_fields-requires-clause-shallow : goal.follow_only_fields-requires-clause-shallow
follow_only_fields-requires-clause-shallow c = none_deep c.args.schemas.now c.requires.shallow c.args.kind.now

pub loop-place-preserved : goal.loop-place-preserved
loop-place-preserved c =
    field_pushed c.as_slice-place-items.result.now c.loop-place.place-index 0 c.args.parts.now c.loop-place.parts c.push.new.self c.loop-place-test.true c.loop-place.invariant
    c.in_ok-push.ensures.ok

pub returns : goal.returns
returns c =
    fields_pushed c.args.schemas.now c.args.kind.now c.new-fields.result c.follow_only_fields.new.fields c.as_slice-place-items.result.now c.loop-place.place-index c.args.parts.now c.loop-place.parts
    c.new-fields.ensures c.as_slice-place-items.ensures c.loop-place-test.false c.loop-place.invariant c.in_ok-follow_only_fields.ensures
