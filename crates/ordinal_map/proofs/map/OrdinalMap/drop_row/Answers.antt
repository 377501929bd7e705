use Rattle.std.proofs.Common.{sym, ap, subst, ◌∙◌, refl}
use Rattle.ordinal_map.specs.KeptRows.{AreKept}
use Rattle.ordinal_map.proofs.Dropping.{dropped_kept, dropped_states, has_hash, has_row, left_kept, left_states}
use Rattle.ordinal_map.proofs.Keeping.{agree_seen, inside, states_of}
use Rattle.ordinal_map.proofs.map.OrdinalMap.drop_row.Goals as goal

pub free_row-requires-clause-within : goal.free_row-requires-clause-within
free_row-requires-clause-within c = inside c.self.inside.rows.items c.args.ordinal (has_row c.self.inside.rows.items c.self.inside.chains c.self.inside.previous c.self.inside.current c.self.inside.filled c.self.invariant c.args.self.now c.self.view_is c.args.ordinal c.requires)

pub free_row-requires-clause-linked : goal.free_row-requires-clause-linked
free_row-requires-clause-linked c = has_hash c.self.inside.rows.items c.self.inside.chains c.self.inside.previous c.self.inside.current c.self.inside.filled c.self.invariant c.args.self.now c.self.view_is c.args.ordinal c.requires

pub invariant_of-self : goal.invariant_of-self
invariant_of-self c =
    subst (λ set. AreKept c.free_row.new.rows.items c.free_row.new.chains c.self.inside.previous set c.min-self-inside.result) (sym c.remove.ensures.removed)
    (dropped_kept c.self.inside.rows.items c.self.inside.chains c.self.inside.previous c.self.inside.current c.self.inside.filled c.self.invariant c.args.self.now c.self.view_is c.args.ordinal c.requires c.free_row.new.rows.items c.free_row.new.chains (λ here. let has = c.contains.ensures.member.1 here in absurd cc) c.free_row.ensures.freed c.free_row.ensures.few c.free_row.ensures.roomy c.min-self-inside.result c.min-self-inside.ensures)

pub invariant_of-self-else-not-contains : goal.invariant_of-self-else-not-contains
invariant_of-self-else-not-contains c =
    subst (λ set. AreKept c.self.inside.rows.items c.self.inside.chains c.self.inside.previous set c.self.inside.filled) (sym c.remove.ensures.removed)
    (left_kept c.self.inside.rows.items c.self.inside.chains c.self.inside.previous c.self.inside.current c.self.inside.filled c.self.invariant c.args.self.now c.self.view_is c.args.ordinal c.requires (c.contains.ensures.member.0 cc))

pub returns-then-not-contains-clause-dropped : goal.returns-then-not-contains-clause-dropped
returns-then-not-contains-clause-dropped c =
    ap (states_of c.free_row.new.rows.items c.self.inside.previous) c.remove.ensures.removed
    ∙ dropped_states c.self.inside.rows.items c.self.inside.chains c.self.inside.previous c.self.inside.current c.self.inside.filled c.self.invariant c.args.self.now c.self.view_is c.args.ordinal c.requires c.free_row.new.rows.items c.free_row.new.chains (λ here. let has = c.contains.ensures.member.1 here in absurd cc) c.free_row.ensures.freed c.free_row.ensures.few c.free_row.ensures.roomy

pub returns-then-not-contains-clause-agree : goal.returns-then-not-contains-clause-agree
returns-then-not-contains-clause-agree c =
    agree_seen c.free_row.new.rows.items c.free_row.new.chains c.self.inside.previous c.remove.new.self c.min-self-inside.result (states_of c.free_row.new.rows.items c.self.inside.previous c.remove.new.self) (invariant_of-self c) refl

pub returns-else-not-contains-clause-dropped : goal.returns-else-not-contains-clause-dropped
returns-else-not-contains-clause-dropped c =
    ap (states_of c.self.inside.rows.items c.self.inside.previous) c.remove.ensures.removed ∙ left_states c.self.inside.rows.items c.self.inside.chains c.self.inside.previous c.self.inside.current c.self.inside.filled c.self.invariant c.args.self.now c.self.view_is c.args.ordinal c.requires

pub returns-else-not-contains-clause-agree : goal.returns-else-not-contains-clause-agree
returns-else-not-contains-clause-agree c =
    agree_seen c.self.inside.rows.items c.self.inside.chains c.self.inside.previous c.remove.new.self c.self.inside.filled (states_of c.self.inside.rows.items c.self.inside.previous c.remove.new.self) (invariant_of-self-else-not-contains c) refl
