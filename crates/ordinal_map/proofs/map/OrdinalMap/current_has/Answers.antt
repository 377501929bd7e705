use Rattle.ordinal_map.proofs.Keeping.{agree_seen, seen_current}
use Rattle.ordinal_map.proofs.map.OrdinalMap.current_has.Goals as goal

pub returns : goal.returns
returns c = record {
  has = seen_current c.self.inside.rows.items c.self.inside.chains c.self.inside.previous c.self.inside.current c.self.inside.filled c.self.invariant c.args.self.now c.self.view_is c.args.ordinal c.contains.result c.contains.ensures.member;
  agree = agree_seen c.self.inside.rows.items c.self.inside.chains c.self.inside.previous c.self.inside.current c.self.inside.filled c.args.self.now c.self.invariant c.self.view_is;
}
