use Rattle.std.proofs.Common.{sym, subst, arith}
use Rattle.std.specs.Prelude.{Ok}
use Rattle.ordinal_map.specs.Assign.{TellsPut}
use Rattle.ordinal_map.specs.KeptRows.{AreKept, row_under}
use Rattle.ordinal_map.proofs.Keeping.{agree_seen, inside, seen_held, seen_taken, states_of}
use Rattle.ordinal_map.proofs.Placing.{entered_kept, entered_tells}
use Rattle.ordinal_map.proofs.SetRows.{some_row}
use Rattle.ordinal_map.proofs.map.OrdinalMap.enter.Goals as goal

pub insert-requires : goal.insert-requires
insert-requires c =
    let within = inside c.self.inside.rows.items c.args.ordinal (seen_taken c.self.inside.rows.items c.self.inside.chains c.self.inside.previous c.self.inside.current c.self.inside.filled c.self.invariant c.args.self.now c.self.view_is c.args.ordinal c.requires) in
    omega (arith, within, c.self.invariant.few)

pub returns-in_err-insert-clause-agree : goal.returns-in_err-insert-clause-agree
returns-in_err-insert-clause-agree c = agree_seen c.self.inside.rows.items c.self.inside.chains c.self.inside.previous c.self.inside.current c.self.inside.filled c.args.self.now c.self.invariant c.self.view_is

pub invariant_of-self-2 : goal.invariant_of-self-2
invariant_of-self-2 c =
    let stand = some_row (row_under c.self.inside.rows.items c.args.ordinal) (seen_taken c.self.inside.rows.items c.self.inside.chains c.self.inside.previous c.self.inside.current c.self.inside.filled c.self.invariant c.args.self.now c.self.view_is c.args.ordinal c.requires) in
    subst (λ set. AreKept c.self.inside.rows.items c.self.inside.chains c.self.inside.previous set c.self.inside.filled) (sym c.in_ok-insert.ensures.ok)
    (entered_kept c.self.inside.rows.items c.self.inside.chains c.self.inside.previous c.self.inside.current c.self.inside.filled c.self.invariant c.args.self.now c.self.view_is stand.0 c.args.ordinal stand.1)

pub returns-clause-tells : goal.returns-clause-tells
returns-clause-tells c = λ row holds.
    (subst (λ set. TellsPut c.args.self.now row (states_of c.self.inside.rows.items c.self.inside.previous set) (Ok c.args.ordinal)) (sym c.in_ok-insert.ensures.ok)
    (entered_tells c.self.inside.rows.items c.self.inside.chains c.self.inside.previous c.self.inside.current c.self.inside.filled c.self.invariant c.args.self.now c.self.view_is row c.args.ordinal (seen_held c.self.inside.rows.items c.self.inside.chains c.self.inside.previous c.self.inside.current c.self.inside.filled c.self.invariant c.args.self.now c.self.view_is row c.args.ordinal holds)))

pub returns-clause-agree : goal.returns-clause-agree
returns-clause-agree c = agree_seen c.self.inside.rows.items c.self.inside.chains c.self.inside.previous c.self.inside.current c.self.inside.filled c.args.self.now c.self.invariant c.self.view_is
