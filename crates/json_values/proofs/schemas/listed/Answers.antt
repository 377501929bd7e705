use Rattle.serde_json.specs.View.{items_view}
use Rattle.json_values.specs.SchemaJson.{IsKindOrFloat, IsSchema}
use Rattle.json_values.specs.SchemasFrom.{HasFloat}
use Rattle.json_values.proofs.ItemLists.{place_within}
use Rattle.json_values.proofs.Refusals.{none_float, refused}
use Rattle.json_values.proofs.schemas.listed.Goals as goal

pub refusal-requires : goal.refusal-requires
refusal-requires c =
    place_within (IsSchema IsKindOrFloat) HasFloat (items_view c.args.types.now) c.in_ok-schemas.schemas c.in-Some.type_index c.in_ok-schemas.ensures c.in-Some.ensures.0

pub returns-in-None : goal.returns-in-None
returns-in-None c = none_float (items_view c.args.types.now) c.in_ok-schemas.schemas c.in_ok-schemas.ensures c.in-None.ensures

pub returns-in-Some : goal.returns-in-Some
returns-in-Some c = refused (items_view c.args.types.now) c.in_ok-schemas.schemas c.in-Some.type_index c.refusal.result c.in_ok-schemas.ensures c.in-Some.ensures c.refusal.ensures
