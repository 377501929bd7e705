use Rattle.ordinal_map.proofs.Keeping.{seen_past_current}
use Rattle.ordinal_map.proofs.map.OrdinalMap.current_bound.Goals as goal

pub returns : goal.returns
returns c = seen_past_current c.self.inside.rows.items c.self.inside.chains c.self.inside.previous c.self.inside.current c.self.inside.filled c.self.invariant c.args.self.now c.self.view_is c.bound.result c.bound.ensures.bound
