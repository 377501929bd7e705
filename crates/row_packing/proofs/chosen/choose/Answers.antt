use Rattle.std.proofs.Common.{subst, List}
use Rattle.schema_model.specs.declared.schema.Schema.{Schema}
use Rattle.row_model.specs.Table.{IsTableOf}
use Rattle.row_packing.proofs.Suiting.{rows_known}
use Rattle.row_packing.proofs.chosen.choose.Goals as goal

pub returns : goal.returns
returns g c =
    record {
      max = c.greatest_ordinal.ensures;
      widths = c.in_ok-widths.ensures;
      total = c.in_ok-total.ensures;
      rows = rows_known (g.B.Rows.schemas c.args.new.now) (g.A.Rows.table c.args.old.now) (g.B.Rows.table c.args.new.now) c.args.type_index c.requires.known
          (subst (λ (ss : List Schema). IsTableOf ss (g.A.Rows.table c.args.old.now)) c.requires.model c.model.ensures.fits) c.model-2.ensures.fits;
    }
