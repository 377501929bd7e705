use Rattle.ordinal_map.proofs.Keeping.{changed_first, changed_second}
use Rattle.ordinal_map.proofs.map.OrdinalMap.is_changed.Goals as goal

pub returns-then-is_some : goal.returns-then-is_some
returns-then-is_some c =
    changed_first c.self.inside.rows.items c.self.inside.chains c.self.inside.previous c.self.inside.current c.self.inside.filled c.self.invariant c.args.self.now c.self.view_is c.first_beside.result c.is_some.result c.first_beside.ensures.tells c.is_some.ensures c.if-is_some.true

pub returns-else-is_some : goal.returns-else-is_some
returns-else-is_some c =
    changed_second c.self.inside.rows.items c.self.inside.chains c.self.inside.previous c.self.inside.current c.self.inside.filled c.self.invariant c.args.self.now c.self.view_is c.first_beside.result c.first_beside-else-is_some.result c.is_some.result c.is_some-else-is_some.result
    c.first_beside.ensures.tells c.first_beside-else-is_some.ensures.tells c.is_some.ensures c.if-is_some.false c.is_some-else-is_some.ensures
