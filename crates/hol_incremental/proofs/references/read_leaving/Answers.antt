use Rattle.std.proofs.Common.{◌∙◌, ◌<◌, List, Some, ap, arith, length, slice_get, sym}
use Rattle.schema_model.specs.declared.schema.Schema.{Schema}
use Rattle.row_model.specs.declared.row.Row.{Row}
use Rattle.kept_sums.specs.Sums.{TakesRow}
use Rattle.hol_incremental.specs.Counts.{named_by}
use Rattle.hol_incremental.proofs.CountedRows.{named_here}
use Rattle.hol_incremental.proofs.ShallowTypes.{live_inside}
use Rattle.hol_incremental.proofs.SumLists.{type_changed}
use Rattle.hol_incremental.proofs.references.read_leaving.Goals as goal

pub returns-clause-named : goal.returns-clause-named
returns-clause-named g c =
    let schemas = g.R.Rows.schemas c.args.rows.now in
    let schema = c.schema.result.now in
    let at = ap (λ (ss : List Schema). slice_get ss c.args.type_index) (sym c.model-model.ensures.model) ∙ c.schema.ensures.value in
    c.in_ok-named.ensures
    ∙ ap (λ (ss : List Schema). named_by ss schema.shape c.row.result.now) c.model-model.ensures.model
    ∙ ap (λ (row : Row). named_by schemas schema.shape row) c.row.ensures
    ∙ sym (named_here schemas (g.R.Rows.table c.args.rows.now) c.args.type_index c.args.ordinal schema _ at c.in_ok-lent.ensures)

pub returns-clause-sums : goal.returns-clause-sums
returns-clause-sums g c = λ row here.
    let t = c.args.type_index in
    let sums = c.args.sums.now.items in
    let at = ap (λ (ss : List Schema). slice_get ss t) (sym c.model-model.ensures.model) ∙ c.schema.ensures.value in
    let low = live_inside (g.R.Rows.table c.args.rows.now) t c.args.ordinal c.requires.live in
    let inside : t < length sums = omega (arith, low, c.model-model.ensures.fits.types, c.requires.types) in
    type_changed TakesRow (g.R.Rows.schemas c.args.rows.now) t c.schema.result.now at sums inside c.index_mut.result.now c.take.new.self c.index_mut.ensures.value c.row-2.result.now row
    (sym here ∙ c.in_ok-lent.ensures ∙ ap (λ (r : Row). Some r) (sym c.row-2.ensures)) c.in_ok-take.ensures
