use Rattle.std.proofs.Common.{◌≡◌, ◌∙◌, List, sym, subst}
use Rattle.std.specs.Prelude.{IfOk}
use Rattle.schema_model.specs.declared.schema.Schema.{Schema}
use Rattle.schema_model.specs.Model.{IsModel}
use Rattle.row_model.specs.Table.{Table}
use Rattle.row_model.specs.View.{view}
use Rattle.chain_check.specs.Compare.{FirstOtherRow, IsPlaceOf}
use Rattle.chain_check.specs.Walk.{state_by}
use Rattle.chain_check.proofs.RowsCompared.{rows_compared}
use Rattle.chain_check.proofs.comparing.compare_rows.Goals as goal

pub returns : goal.returns
returns g c =
    let mine = g.W.Rows.schemas c.args.walked.now in
    let own = g.W.Rows.schemas c.args.fresh.now in
    let rows = g.W.Rows.table c.args.fresh.now in
    let model = subst IsModel (c.model-model.ensures.model ∙ c.requires.models) c.len-types.ensures.model in
    let same : view mine own rows ≡ rows = subst (λ (ss : List Schema). view ss own rows ≡ rows) (sym c.requires.models) (c.own_table.ensures own rows model c.requires.fits) in
    let first = subst (λ (t : Table). FirstOtherRow (g.W.Rows.table c.args.walked.now) t c.in_ok-found.found) (sym same) c.in_ok-found.ensures.first in
    let placed = subst (λ (ss : List Schema). IfOk c.place_at.result (IsPlaceOf ss c.in_ok-found.found)) c.model-model.ensures.model c.place_at.ensures in
    rows_compared (state_by g.W.Walk.tag g.W.Rows.schemas g.W.Rows.table c.args.walked.now) (state_by g.W.Walk.tag g.W.Rows.schemas g.W.Rows.table c.args.fresh.now)
    c.requires.tags c.requires.agree c.in_ok-found.found c.place_at.result first placed
