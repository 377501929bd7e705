use Rattle.std.proofs.Common.{◌≡◌, Some, length, sym, subst, ◌∙◌}
use Rattle.std.proofs.lemmas.Result.{on_ok_weaker}
use Rattle.row_model.specs.declared.row.Row.{Row}
use Rattle.row_model.specs.Lent.{lent_row}
use Rattle.json_rows.specs.FieldOrder.{AreBelow}
use Rattle.json_rows.specs.RowLine.{PutsRow, values_of}
use Rattle.json_rows.proofs.line.put_lent.Goals as goal

pub put_row-requires : goal.put_row-requires
put_row-requires g c =
    subst (λ (row : Row). AreBelow (length (values_of row)) c.args.leads.now) (sym c.row.ensures) (c.requires.below (lent_row c.in_ok-lent.lent) c.in_ok-lent.ensures)

pub returns-clause-put : goal.returns-clause-put
returns-clause-put g c =
    on_ok_weaker c.put_row.result (λ put row at.
    let both : Some (lent_row c.in_ok-lent.lent) ≡ Some row = sym c.in_ok-lent.ensures ∙ at in
    let same : lent_row c.in_ok-lent.lent ≡ row = cc in
    subst (λ r. PutsRow c.args.leads.now r c.args.out.now.items c.put_row.new.out.items) (c.row.ensures ∙ same) put) c.put_row.ensures.put
