use Rattle.std.proofs.Common.{arith}
use Rattle.schema_model.proofs.Ways.{no_way_from, type_inside}
use Rattle.model_paths.proofs.path_walk.+goes_on.Goals as goal

pub returns-in_default-referred : goal.returns-in_default-referred
returns-in_default-referred t c = no_way_from c.args.schemas.now c.args.kind.now c.args.fields.now c.in-len1-up.len_at_least c.in_default-referred.ensures

pub get-requires : goal.get-requires
get-requires t c = let (name, refers, index) = c.in-Some.ensures in type_inside c.args.schemas.now name c.in-Some.next index
