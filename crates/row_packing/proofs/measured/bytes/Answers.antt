use Rattle.std.proofs.Common.{sym, ap, ◌∙◌, slice_get, List}
use Rattle.schema_model.specs.declared.schema.Schema.{Schema}
use Rattle.row_packing.proofs.Measuring.{none_held}
use Rattle.row_packing.proofs.measured.bytes.Goals as goal

pub returns-then-is_fixed : goal.returns-then-is_fixed
returns-then-is_fixed g c =
    let at = ap (λ (ss : List Schema). slice_get ss c.args.type_index) (sym c.model.ensures.model) ∙ c.schema.ensures.value in
    record {
      bytes = none_held (g.R.Rows.schemas c.args.rows.now) (g.R.Rows.table c.args.rows.now) c.args.type_index c.schema.result.now c.fields.result.now c.requires c.model.ensures.fits at c.fields.ensures
          (c.is_fixed.ensures.0 c.if-is_fixed.true);
      fits = c.model.ensures.fits;
    }
