use Rattle.std.proofs.Common.{sym, subst, refl}
use Rattle.ordinal_map.specs.KeptRows.{AreKept}
use Rattle.ordinal_map.proofs.Dropping.{all_kept}
use Rattle.ordinal_map.proofs.Keeping.{agree_seen, states_of}
use Rattle.ordinal_map.proofs.map.OrdinalMap.keep_all.Goals as goal

pub returns-in_err-self-inside-clause-agree : goal.returns-in_err-self-inside-clause-agree
returns-in_err-self-inside-clause-agree c = agree_seen c.self.inside.rows.items c.self.inside.chains c.self.inside.previous c.self.inside.current c.self.inside.filled c.args.self.now c.self.invariant c.self.view_is

pub invariant_of-self : goal.invariant_of-self
invariant_of-self c =
    subst (λ set. AreKept c.self.inside.rows.items c.self.inside.chains c.self.inside.previous set c.self.inside.filled) (sym c.in_ok-self-inside.ensures)
    (all_kept c.self.inside.rows.items c.self.inside.chains c.self.inside.previous c.self.inside.current c.self.inside.filled c.self.invariant c.args.self.now c.self.view_is c.requires)

pub returns-clause-agree : goal.returns-clause-agree
returns-clause-agree c =
    let set = c.in_ok-self-inside.field-0 in
    agree_seen c.self.inside.rows.items c.self.inside.chains c.self.inside.previous set c.self.inside.filled (states_of c.self.inside.rows.items c.self.inside.previous set) (invariant_of-self c) refl
