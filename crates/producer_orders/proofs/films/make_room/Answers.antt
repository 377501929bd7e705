use Rattle.std.proofs.Common.{◌<◌, List, length, subst, sym, arith}
use Rattle.schema_model.specs.declared.schema.Schema.{Schema}
use Rattle.producer_orders.proofs.films.make_room.Goals as goal

pub reserve-requires-clause-known : goal.reserve-requires-clause-known
reserve-requires-clause-known c = subst (λ (schemas : List Schema). 2 < length schemas) (sym c.requires) (omega arith)
