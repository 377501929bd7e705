use Rattle.ordinal_map.proofs.Keeping.{seen_before}
use Rattle.ordinal_map.proofs.map.OrdinalMap.previous_ordinals.Goals as goal

pub returns : goal.returns
returns c = seen_before c.self.inside.rows.items c.self.inside.chains c.self.inside.previous c.self.inside.current c.self.inside.filled c.self.invariant c.args.self.now c.self.view_is
