use Rattle.std.proofs.Common.{List, ◌∙◌, ap, sym, subst}
use Rattle.schema_model.specs.declared.schema.Schema.{Schema}
use Rattle.row_model.specs.Table.{IsTableOf}
use Rattle.read_engine.specs.Walking.{schemas_at, table_at}
use Rattle.read_engine.proofs.Consumers.{fits_at}
use Rattle.read_engine.proofs.walker.Walker.rows.Goals as goal

pub now_of-requires : goal.now_of-requires
now_of-requires c =
    subst (IsTableOf c.types.result.now) (sym c.states.ensures.table) (subst (λ (schemas : List Schema). IsTableOf schemas (table_at c.self.inside.consumer)) (sym c.types.ensures.schemas) (fits_at c.self.inside.consumer c.types.ensures.position))

pub returns-clause-schemas : goal.returns-clause-schemas
returns-clause-schemas c = c.now_of.ensures.schemas ∙ c.types.ensures.schemas ∙ ap schemas_at c.self.view_is

pub returns-clause-table : goal.returns-clause-table
returns-clause-table c = c.now_of.ensures.table ∙ c.states.ensures.table ∙ ap table_at c.self.view_is
