use Rattle.type_state.proofs.Comings.{added_by}
use Rattle.type_state.proofs.differences.Differences.place_of.Goals as goal

pub returns : goal.returns
returns c = added_by c.args.self.now c.args.ordinal c.place_among.result c.as_slice.result.now c.requires c.as_slice.ensures c.place_among.ensures
