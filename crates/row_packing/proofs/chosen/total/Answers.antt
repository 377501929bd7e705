use Rattle.std.proofs.Common.{sym, ap, ◌∙◌, slice_get, List}
use Rattle.schema_model.specs.declared.schema.Schema.{Schema}
use Rattle.row_model.specs.BothStates.{rows_of_both}
use Rattle.row_packing.proofs.Suiting.{answer_same, object_total_is, list_total_is, buckets_total_is}
use Rattle.row_packing.proofs.chosen.total.Goals as goal

pub returns-in-Object : goal.returns-in-Object
returns-in-Object g c =
    let rows = rows_of_both (g.A.Rows.table c.args.old.now) (g.B.Rows.table c.args.new.now) c.args.type_index in
    let at = ap (λ (ss : List Schema). slice_get ss c.args.type_index) (sym c.model.ensures.model) ∙ c.schema.ensures.value in
    object_total_is (g.B.Rows.schemas c.args.new.now) c.args.type_index c.schema.result.now at rows c.in-Object.field-0 c.in-Object.field-1 c.in-Object.is

pub returns-in-List : goal.returns-in-List
returns-in-List g c =
    let rows = rows_of_both (g.A.Rows.table c.args.old.now) (g.B.Rows.table c.args.new.now) c.args.type_index in
    let at = ap (λ (ss : List Schema). slice_get ss c.args.type_index) (sym c.model.ensures.model) ∙ c.schema.ensures.value in
    answer_same c.total.result _ _ (list_total_is (g.B.Rows.schemas c.args.new.now) c.args.type_index c.schema.result.now at rows c.in-List.field-0 c.in-List.is) c.total.ensures

pub returns-in_default : goal.returns-in_default
returns-in_default g c =
    let rows = rows_of_both (g.A.Rows.table c.args.old.now) (g.B.Rows.table c.args.new.now) c.args.type_index in
    let at = ap (λ (ss : List Schema). slice_get ss c.args.type_index) (sym c.model.ensures.model) ∙ c.schema.ensures.value in
    answer_same c.total-in_default.result _ _ (buckets_total_is (g.B.Rows.schemas c.args.new.now) c.args.type_index c.schema.result.now at rows c.in_default.not-Object c.in_default.not-List) c.total-in_default.ensures
