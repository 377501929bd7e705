use Rattle.std.proofs.Common.{sym, ◌∙◌, ap, subst}
use Rattle.std.specs.Prelude.{slice_get}
use Rattle.row_model.specs.Before.{PastPart}
use Rattle.hol_history.specs.Steps.{IsPart}
use Rattle.hol_history.proofs.RowsBefore.{search_no_row, search_row}
use Rattle.hol_history.proofs.part.Part.left_row.Goals as goal

pub returns-in-Ok-clause-row : goal.returns-in-Ok-clause-row
returns-in-Ok-clause-row c =
    let part = subst IsPart c.self.view_is c.self.invariant in
    search_row c.args.self.now c.as_slice.result.now c.args.ordinal c.in-Ok.place c.get.result.now (c.as_slice.ensures ∙ ap (λ (p : PastPart). p.gone) c.self.view_is) part.rising c.in-Ok.ensures.position
    (sym (ap (λ (p : PastPart). slice_get p.rows c.in-Ok.place) c.self.view_is) ∙ c.get.ensures)

pub returns-in-Err-clause-row : goal.returns-in-Err-clause-row
returns-in-Err-clause-row c =
    let part = subst IsPart c.self.view_is c.self.invariant in
    search_no_row c.args.self.now c.as_slice.result.now c.args.ordinal c.in-Err.field-0 (c.as_slice.ensures ∙ ap (λ (p : PastPart). p.gone) c.self.view_is) part.rising c.in-Err.ensures.position
