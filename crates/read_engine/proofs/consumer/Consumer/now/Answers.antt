use Rattle.std.proofs.Common.{List, ◌∙◌, sym, subst}
use Rattle.schema_model.specs.declared.schema.Schema.{Schema}
use Rattle.row_model.specs.Table.{IsTableOf}
use Rattle.read_engine.specs.Position.{IsPosition}
use Rattle.read_engine.specs.Walking.{table_at}
use Rattle.read_engine.proofs.Consumers.{fits_at, shows_schemas, shows_table, stands_and}
use Rattle.read_engine.proofs.consumer.Consumer.now.Goals as goal

pub now_of-requires : goal.now_of-requires
now_of-requires c =
    subst (IsTableOf c.types.result.now) (sym c.states.ensures.table) (subst (λ (schemas : List Schema). IsTableOf schemas (table_at c.args.self.now)) (sym c.types.ensures.schemas) (fits_at c.args.self.now c.types.ensures.position))

pub returns-clause-schemas : goal.returns-clause-schemas
returns-clause-schemas c = shows_schemas c.args.self.now c.now_of.result.schemas c.requires (c.now_of.ensures.schemas ∙ c.types.ensures.schemas)

pub returns-clause-table : goal.returns-clause-table
returns-clause-table c = shows_table c.args.self.now c.now_of.result.table c.requires (c.now_of.ensures.table ∙ c.states.ensures.table)

pub returns-clause-position : goal.returns-clause-position
returns-clause-position c = stands_and c.args.self.now IsPosition c.requires c.types.ensures.position
