use Rattle.std.proofs.Common.{inl}
use Rattle.serde_json.specs.View.{view}
use Rattle.json_values.proofs.SchemaShapes.{reference_of}
use Rattle.json_values.proofs.schema_from.kind_from.Goals as goal

pub text_from-requires : goal.text_from-requires
text_from-requires c =
    let found = reference_of (view c.args.value.now) c.args.name.now c.in-None.ensures c.requires.0 c.requires.1 c.requires.2 in
    (found.0, found.2.0)

pub returns-in_ok-text_from-in-None : goal.returns-in_ok-text_from-in-None
returns-in_ok-text_from-in-None c =
    let found = reference_of (view c.args.value.now) c.args.name.now c.in-None.ensures c.requires.0 c.requires.1 c.requires.2 in
    (inl found.1, (c.in_ok-text_from-in-None.ensures, found.2.1))
