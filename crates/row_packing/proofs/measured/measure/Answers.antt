use Rattle.std.proofs.Common.{subst, List}
use Rattle.schema_model.specs.declared.schema.Schema.{Schema}
use Rattle.row_model.specs.Table.{IsTableOf}
use Rattle.row_packing.specs.Chosen.{shape_at}
use Rattle.row_packing.specs.Measured.{IsHeld}
use Rattle.row_packing.proofs.Suiting.{rows_known}
use Rattle.row_packing.proofs.measured.measure.Goals as goal

pub returns : goal.returns
returns g c =
    let old = g.A.Rows.table c.args.old.now in
    let new = g.B.Rows.table c.args.new.now in
    let schemas = g.B.Rows.schemas c.args.new.now in
    let t = c.args.type_index in
    record {
      before = subst (λ (ss : List Schema). IsHeld (shape_at ss t) old t c.in_ok-old_held.old_held) c.requires.model c.in_ok-old_held.ensures.held;
      after = c.in_ok-new_held.ensures.held;
      total = c.in_ok-total.ensures;
      chosen = λ keeps. record {
        max = c.greatest_ordinal.ensures;
        widths = c.in_ok-widths_within.ensures keeps;
        total = c.in_ok-total.ensures;
        rows = rows_known schemas old new t c.requires.known (subst (λ (ss : List Schema). IsTableOf ss old) c.requires.model c.in_ok-old_held.ensures.fits) c.in_ok-new_held.ensures.fits;
      };
    }
