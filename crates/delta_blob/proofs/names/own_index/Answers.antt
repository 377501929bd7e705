use Rattle.std.proofs.Common.{refl}
use Rattle.delta_blob.proofs.Indexed.{type_inside}
use Rattle.delta_blob.proofs.names.own_index.Goals as goal

pub schema-requires : goal.schema-requires
schema-requires c = type_inside c.args.model.now c.text.result.now c.in_ok-type_index.type_index ((c.in_ok-type_index.ensures.found c.in_ok-type_index.type_index).0 refl)
