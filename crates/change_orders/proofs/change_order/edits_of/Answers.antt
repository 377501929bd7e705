use Rattle.std.proofs.Common.{List, subst, sym}
use Rattle.std.specs.Prelude.{IfOk}
use Rattle.schema_model.specs.declared.schema.Schema.{Schema}
use Rattle.row_model.specs.Table.{IsClosed, Table}
use Rattle.hol_incremental.specs.EditKeys.{AreEditsOf}
use Rattle.change_orders.proofs.change_order.edits_of.Goals as goal

pub build-requires : goal.build-requires
build-requires g c =
    subst (λ (schemas : List Schema). IsClosed schemas c.previous.result.table) (sym c.previous.ensures.schemas)
    (subst (λ (rows : Table). IsClosed c.args.producer.now.schemas rows) (sym c.previous.ensures.table) c.previous.ensures.closed.closed)

pub returns-in-None : goal.returns-in-None
returns-in-None g c =
    subst (λ (schemas : List Schema). IfOk c.build.result (AreEditsOf schemas c.args.producer.now.previous)) c.previous.ensures.schemas
    (subst (λ (rows : Table). IfOk c.build.result (AreEditsOf c.previous.result.schemas rows)) c.previous.ensures.table c.build.ensures.edits)
