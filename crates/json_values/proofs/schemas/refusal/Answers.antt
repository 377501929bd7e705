use Rattle.std.proofs.Common.{◌<◌, arith}
use Rattle.json_values.proofs.Refusals.{small_index}
use Rattle.json_values.proofs.schemas.refusal.Goals as goal

pub overflow_cast-result : goal.overflow_cast-result
overflow_cast-result c = let small : c.args.type_index < 512 = small_index c.args.schemas c.args.type_index c.requires c.in-Ok.ensures in omega arith
