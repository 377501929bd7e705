use Rattle.type_state.proofs.Comings.{gone_by, stays_by}
use Rattle.type_state.proofs.differences.Differences.is_removed.Goals as goal

pub returns-clause-gone : goal.returns-clause-gone
returns-clause-gone c = gone_by c.args.self.now.patch.now.removed c.args.ordinal c.place_among.result c.as_slice.result.now c.is_some.result c.as_slice.ensures c.is_some.ensures c.place_among.ensures

pub returns-clause-stays : goal.returns-clause-stays
returns-clause-stays c = stays_by c.args.self.now.patch.now.removed c.args.ordinal c.place_among.result c.as_slice.result.now c.is_some.result c.as_slice.ensures c.is_some.ensures c.place_among.ensures
