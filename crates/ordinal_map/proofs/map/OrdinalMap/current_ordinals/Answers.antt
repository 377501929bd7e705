use Rattle.ordinal_map.proofs.Keeping.{seen_now}
use Rattle.ordinal_map.proofs.map.OrdinalMap.current_ordinals.Goals as goal

pub returns : goal.returns
returns c = seen_now c.self.inside.rows.items c.self.inside.chains c.self.inside.previous c.self.inside.current c.self.inside.filled c.self.invariant c.args.self.now c.self.view_is
