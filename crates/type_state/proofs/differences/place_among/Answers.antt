use Rattle.type_state.proofs.Comings.{not_among}
use Rattle.type_state.proofs.differences.place_among.Goals as goal

pub returns-in-Err : goal.returns-in-Err
returns-in-Err c = not_among c.args.ordinals.now c.from.result c.args.ordinal c.in-Err.field-0 c.from.ensures c.requires c.in-Err.ensures.position
