use Rattle.std.proofs.Common.{◌≡◌, ◌≤◌, ◌<◌, ℕ, List, length, ap, sym, ◌∙◌, subst}
use Rattle.schema_model.specs.declared.schema.Schema.{Schema}
use Rattle.hol_history.specs.History.{PastSteps}
use Rattle.hol_history.proofs.OldTables.{parts_are, parts_count}
use Rattle.hol_history.proofs.Pushes.{pushed_none, stands_pushed, stands_put, tables_pushed, tables_put}
use Rattle.hol_history.proofs.history.History.push.Goals as goal

pub returns-then-self-eq0-clause-past : goal.returns-then-self-eq0-clause-past
returns-then-self-eq0-clause-past g c =
    let few = subst (λ (h : PastSteps). length h.steps ≤ h.bound) c.self.view_is c.self.invariant.few in
    let none : c.args.self.now.bound ≡ 0 = sym (ap (λ (h : PastSteps). h.bound) c.self.view_is) ∙ c.if-self-eq0.true in
    tables_pushed (g.B.Rows.schemas c.args.now.now) (g.B.Rows.table c.args.now.now) c.args.self.now c.args.self.now c.args.from (g.A.LeftRows.past c.args.before.now)
    (pushed_none c.args.self.now c.args.from (g.A.LeftRows.past c.args.before.now) few none)

pub returns-then-self-eq0-clause-stands : goal.returns-then-self-eq0-clause-stands
returns-then-self-eq0-clause-stands g c =
    let few = subst (λ (h : PastSteps). length h.steps ≤ h.bound) c.self.view_is c.self.invariant.few in
    let none : c.args.self.now.bound ≡ 0 = sym (ap (λ (h : PastSteps). h.bound) c.self.view_is) ∙ c.if-self-eq0.true in
    stands_pushed (g.B.Rows.schemas c.args.now.now) (g.B.Rows.table c.args.now.now) c.args.self.now c.args.self.now c.args.from (g.A.LeftRows.past c.args.before.now)
    (pushed_none c.args.self.now c.args.from (g.A.LeftRows.past c.args.before.now) few none) c.requires.fits c.requires.stood

pub of-requires-clause-types : goal.of-requires-clause-types
of-requires-clause-types g c =
    parts_count (g.B.Rows.schemas c.args.now.now) (g.B.Rows.table c.args.now.now) (g.A.LeftRows.past c.args.before.now) c.requires.fits
    ∙ sym (ap (λ (schemas : List Schema). length schemas) c.model.ensures.model)
    ∙ sym c.len.ensures.count

pub of-requires-clause-parts : goal.of-requires-clause-parts
of-requires-clause-parts g c = λ type_index inside.
    let count = of-requires-clause-types g c in
    parts_are (g.B.Rows.schemas c.args.now.now) (g.B.Rows.table c.args.now.now) (g.A.LeftRows.past c.args.before.now) c.requires.fits type_index (subst (λ (n : ℕ). type_index < n) (sym count) inside)

pub returns-clause-past : goal.returns-clause-past
returns-clause-past g c =
    tables_put c.put.result (g.B.Rows.schemas c.args.now.now) (g.B.Rows.table c.args.now.now) c.args.self.now c.put.new.self c.in_ok-step.step c.args.from (g.A.LeftRows.past c.args.before.now) c.put.ensures.ok c.in_ok-step.ensures

pub returns-clause-stands : goal.returns-clause-stands
returns-clause-stands g c =
    stands_put c.put.result (g.B.Rows.schemas c.args.now.now) (g.B.Rows.table c.args.now.now) c.args.self.now c.put.new.self c.in_ok-step.step c.args.from (g.A.LeftRows.past c.args.before.now) c.put.ensures.ok c.in_ok-step.ensures
    c.requires.fits c.requires.stood
