use Rattle.std.proofs.Common.{List, subst, sym, ap, ◌∙◌}
use Rattle.schema_model.specs.declared.schema.Schema.{Schema}
use Rattle.row_model.specs.Table.{IsTableOf}
use Rattle.std.proofs.Common.{slice_get}
use Rattle.column_rows.proofs.SameRows.{rows_same}
use Rattle.column_rows.proofs.same.are_same.Goals as goal

pub returns : goal.returns
returns g c = λ same.
    let table = g.A.Rows.table c.args.rows.now in
    let other = g.B.Rows.table c.args.others.now in
    rows_same (g.A.Rows.schemas c.args.rows.now) table other c.args.type_index c.schema.result.now (ap (λ (schemas : List Schema). slice_get schemas c.args.type_index) (sym c.model.ensures.model) ∙ c.schema.ensures.value)
    c.model.ensures.fits (subst (λ (schemas : List Schema). IsTableOf schemas other) (sym c.requires.models) c.requires.fits) (c.have_same_live.ensures c.if-not-have_same_live.false) (c.are_parts_same.ensures same)
