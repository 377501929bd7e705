use Rattle.write_engine.proofs.GrownTypes.{tells_stayed, type_there}
use Rattle.write_engine.proofs.growing.has_stayed.Goals as goal

pub schema-requires-2 : goal.schema-requires-2
schema-requires-2 c = type_there c.args.model.now c.args.grown.now c.requires.grows c.args.type_index c.requires.known

pub returns : goal.returns
returns c =
    tells_stayed c.args.model.now c.args.grown.now c.requires.grows c.args.type_index c.schema.result.now c.schema-2.result.now c.fields-own.result.now c.fields.result.now c.schema.ensures.value c.schema-2.ensures.value
    c.fields-own.ensures c.fields.ensures
