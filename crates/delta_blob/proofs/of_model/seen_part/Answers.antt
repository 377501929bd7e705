use Rattle.schema_growth.proofs.Growths.{fields_apart}
use Rattle.delta_blob.proofs.NamingParts.{few_fields}
use Rattle.delta_blob.proofs.of_model.seen_part.Goals as goal

pub seen_section-requires-clause-apart : goal.seen_section-requires-clause-apart
seen_section-requires-clause-apart c = fields_apart c.args.model.now c.args.named.type_index c.schema-mine.result.now c.schema-mine.ensures.model c.schema-mine.ensures.value

pub seen_section-requires-clause-few : goal.seen_section-requires-clause-few
seen_section-requires-clause-few c = few_fields c.args.model.now c.args.named.type_index c.schema-mine.result.now c.schema-mine.ensures.model c.schema-mine.ensures.value
