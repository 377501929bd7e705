use Rattle.std.proofs.Common.{Ok}
use Rattle.model_rules.proofs.FirstBroken.{made, named, model_exit}
use Rattle.model_rules.proofs.making.model_of.Goals as goal

pub returns-in_err-index-clause-made : goal.returns-in_err-index-clause-made
returns-in_err-index-clause-made c =
    made c.args.schemas c.from_residual.result (model_exit c.args.schemas c.from_residual.result c.in_err-index.field-0.0 c.from_residual.ensures.1 c.in_err-index.ensures)

pub returns-in_err-index-clause-broken : goal.returns-in_err-index-clause-broken
returns-in_err-index-clause-broken c = λ rule t.
    named c.args.schemas rule t c.from_residual.result (model_exit c.args.schemas c.from_residual.result c.in_err-index.field-0.0 c.from_residual.ensures.1 c.in_err-index.ensures)

pub returns-clause-made : goal.returns-clause-made
returns-clause-made c = made c.args.schemas (Ok c.from_schemas.result) (c.from_schemas.ensures, c.in_ok-index.ensures.0)

pub returns-clause-broken : goal.returns-clause-broken
returns-clause-broken c = λ rule t. named c.args.schemas rule t (Ok c.from_schemas.result) (c.from_schemas.ensures, c.in_ok-index.ensures.0)
