use Rattle.std.proofs.Common.{sym, ap, ◌∙◌, slice_get, List}
use Rattle.schema_model.specs.declared.schema.Schema.{Schema}
use Rattle.row_model.specs.BothStates.{rows_of_both}
use Rattle.row_packing.specs.Chosen.{shape_at}
use Rattle.row_packing.proofs.Suiting.{rows_bytes_few, answer_same, object_widths_are, list_widths_are, buckets_widths_are}
use Rattle.row_packing.proofs.chosen.widths.Goals as goal

pub widths-requires : goal.widths-requires
widths-requires g c = rows_bytes_few (shape_at (g.B.Rows.schemas c.args.new.now) c.args.type_index) (g.A.Rows.table c.args.old.now) (g.B.Rows.table c.args.new.now) c.args.type_index c.requires.keeps

pub returns-in-Object : goal.returns-in-Object
returns-in-Object g c =
    let rows = rows_of_both (g.A.Rows.table c.args.old.now) (g.B.Rows.table c.args.new.now) c.args.type_index in
    let at = ap (λ (ss : List Schema). slice_get ss c.args.type_index) (sym c.model.ensures.model) ∙ c.schema.ensures.value in
    answer_same c.widths.result _ _ (object_widths_are (g.B.Rows.schemas c.args.new.now) c.args.type_index c.schema.result.now at rows c.in-Object.field-0 c.in-Object.field-1 c.in-Object.is) c.widths.ensures

pub returns-in-List : goal.returns-in-List
returns-in-List g c =
    let rows = rows_of_both (g.A.Rows.table c.args.old.now) (g.B.Rows.table c.args.new.now) c.args.type_index in
    let at = ap (λ (ss : List Schema). slice_get ss c.args.type_index) (sym c.model.ensures.model) ∙ c.schema.ensures.value in
    answer_same c.widths-in-List.result _ _ (list_widths_are (g.B.Rows.schemas c.args.new.now) c.args.type_index c.schema.result.now at rows c.in-List.field-0 c.in-List.is) c.widths-in-List.ensures

pub returns-in_default : goal.returns-in_default
returns-in_default g c =
    let rows = rows_of_both (g.A.Rows.table c.args.old.now) (g.B.Rows.table c.args.new.now) c.args.type_index in
    let at = ap (λ (ss : List Schema). slice_get ss c.args.type_index) (sym c.model.ensures.model) ∙ c.schema.ensures.value in
    buckets_widths_are (g.B.Rows.schemas c.args.new.now) c.args.type_index c.schema.result.now at rows (g.A.Rows.schemas c.args.old.now) c.widths-in_default.result c.requires.model
    c.in_default.not-Object c.in_default.not-List c.widths-in_default.ensures
