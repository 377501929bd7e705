use Rattle.std.proofs.Common.{sym, ap, subst, ◌∙◌, inl}
use Rattle.ordinal_map.specs.KeptRows.{AreKept}
use Rattle.ordinal_map.proofs.Freeing.{advanced_kept, advanced_states}
use Rattle.ordinal_map.proofs.Keeping.{inside, states_of}
use Rattle.ordinal_map.proofs.map.OrdinalMap.advance.Goals as goal

pub free_beside-requires-clause-within : goal.free_beside-requires-clause-within
free_beside-requires-clause-within c = λ o member. inside c.self.inside.rows.items o ((c.self.invariant.live o).1 (inl member))

pub invariant_of-self : goal.invariant_of-self
invariant_of-self c =
    subst (λ set. AreKept c.free_beside.new.rows.items c.free_beside.new.chains set c.clear.new.self 0) (sym c.swap.ensures.x_after)
    (subst (λ set. AreKept c.free_beside.new.rows.items c.free_beside.new.chains c.self.inside.current set 0) (sym c.clear.ensures)
    (advanced_kept c.self.inside.rows.items c.free_beside.new.rows.items c.self.inside.chains c.free_beside.new.chains c.self.inside.previous c.self.inside.current c.self.inside.filled c.self.invariant c.args.self.now c.self.view_is c.free_beside.ensures.few c.free_beside.ensures.roomy c.free_beside.ensures.freed))

pub returns : goal.returns
returns c =
    ap (λ set. states_of c.free_beside.new.rows.items set c.clear.new.self) c.swap.ensures.x_after
    ∙ ap (states_of c.free_beside.new.rows.items c.self.inside.current) c.clear.ensures
    ∙ advanced_states c.self.inside.rows.items c.free_beside.new.rows.items c.self.inside.chains c.free_beside.new.chains c.self.inside.previous c.self.inside.current c.self.inside.filled c.self.invariant c.args.self.now c.self.view_is c.free_beside.ensures.few c.free_beside.ensures.roomy c.free_beside.ensures.freed
