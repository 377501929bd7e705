use Rattle.std.proofs.Common.{◌≡◌, Some, None, ap, rules, sym, subst, ◌∙◌}
use Rattle.std.specs.Prelude.{IfOk}
use Rattle.std.specs.Ordering.{nat_cmp}
use Rattle.std.specs.FinMap.{find}
use Rattle.type_state.specs.Differences.{added_of}
use Rattle.type_state.proofs.DifferingRows.{with_added, with_removed, with_neither}
use Rattle.type_state.proofs.differences.Differences.find.Goals as goal

pub returns-in-Some : goal.returns-in-Some
returns-in-Some c = ap Some c.in_ok-row.ensures ∙ sym (with_added c.args.rows.now.rows c.args.self.now c.args.ordinal _ c.requires c.in-Some.ensures.found)

pub returns-then-is_removed : goal.returns-then-is_removed
returns-then-is_removed c =
    let none : find nat_cmp c.args.ordinal (added_of c.args.self.now) ≡ None = search rules in
    sym (with_removed c.args.rows.now.rows c.args.self.now c.args.ordinal None c.requires none (c.is_removed.ensures.gone c.if-is_removed.true))

pub returns : goal.returns
returns c =
    let none : find nat_cmp c.args.ordinal (added_of c.args.self.now) ≡ None = search rules in
    subst (λ there. IfOk c.find.result (λ row. row ≡ there)) (sym (with_neither c.args.rows.now.rows c.args.self.now c.args.ordinal c.requires none (c.is_removed.ensures.stays c.if-is_removed.false))) c.find.ensures
