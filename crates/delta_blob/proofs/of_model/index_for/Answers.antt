use Rattle.schema_growth.proofs.Growths.{fields_apart}
use Rattle.delta_blob.proofs.of_model.index_for.Goals as goal

pub agree_by_place-requires : goal.agree_by_place-requires
agree_by_place-requires c = fields_apart c.args.model.now c.in-Some.type_index c.schema.result.now c.schema.ensures.model c.schema.ensures.value
