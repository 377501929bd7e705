use Rattle.std.proofs.Common.{List, subst}
use Rattle.schema_model.specs.Model.{IsModel}
use Rattle.schema_model.specs.declared.schema.Schema.{Schema}
use Rattle.hol_incremental.proofs.ChangeFacts.{agree_once}
use Rattle.change_orders.proofs.change_order.too_many.Goals as goal

pub returns-clause-model : goal.returns-clause-model
returns-clause-model c = subst (λ (schemas : List Schema). IsModel schemas) c.model.ensures c.len-types.ensures.model

pub returns-clause-once : goal.returns-clause-once
returns-clause-once c = agree_once c.args.producer.now.previous c.args.producer.now.current c.current-current.ensures.agree
