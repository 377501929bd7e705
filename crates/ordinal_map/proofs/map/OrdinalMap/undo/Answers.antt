use Rattle.std.proofs.Common.{sym, ap, subst, ◌∙◌, inr}
use Rattle.ordinal_map.specs.KeptRows.{AreKept}
use Rattle.ordinal_map.proofs.Freeing.{undone_kept, undone_states}
use Rattle.ordinal_map.proofs.Keeping.{inside, states_of}
use Rattle.ordinal_map.proofs.map.OrdinalMap.undo.Goals as goal

pub free_beside-requires-clause-within : goal.free_beside-requires-clause-within
free_beside-requires-clause-within c = λ o member. inside c.self.inside.rows.items o ((c.self.invariant.live o).1 (inr member))

pub invariant_of-self : goal.invariant_of-self
invariant_of-self c =
    subst (λ set. AreKept c.free_beside.new.rows.items c.free_beside.new.chains c.self.inside.previous set 0) (sym c.clear.ensures)
    (undone_kept c.self.inside.rows.items c.free_beside.new.rows.items c.self.inside.chains c.free_beside.new.chains c.self.inside.previous c.self.inside.current c.self.inside.filled c.self.invariant c.args.self.now c.self.view_is c.free_beside.ensures.few c.free_beside.ensures.roomy c.free_beside.ensures.freed)

pub returns : goal.returns
returns c =
    ap (states_of c.free_beside.new.rows.items c.self.inside.previous) c.clear.ensures
    ∙ undone_states c.self.inside.rows.items c.free_beside.new.rows.items c.self.inside.chains c.free_beside.new.chains c.self.inside.previous c.self.inside.current c.self.inside.filled c.self.invariant c.args.self.now c.self.view_is c.free_beside.ensures.few c.free_beside.ensures.roomy c.free_beside.ensures.freed
