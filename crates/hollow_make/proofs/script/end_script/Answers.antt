use Rattle.hollow_make.proofs.Ends.{ends_made, ends_refused, ends_stopped}
use Rattle.hollow_make.proofs.script.end_script.Goals as goal

pub returns-in-Err-clause-tells : goal.returns-in-Err-clause-tells
returns-in-Err-clause-tells g c =
    ends_refused (g.S.BlobStore.seen c.args.store.now).held c.args.published.now c.args.producer.now.previous c.in_ok-reply.reply c.in-Err.refusal c.in_ok-reply.ensures.reply c.in-Err.ensures.refused

pub returns-in_ok-summary-in-Ok-clause-tells : goal.returns-in_ok-summary-in-Ok-clause-tells
returns-in_ok-summary-in-Ok-clause-tells g c =
    ends_made (g.S.BlobStore.seen c.args.store.now).held c.args.published.now c.args.producer.now.previous c.in_ok-reply.reply c.in_ok-summary-in-Ok.field-0 c.in_ok-reply.ensures.reply
    c.in-Ok.ensures.answered c.in_ok-summary-in-Ok.ensures

pub returns-in_err-summary-in-Ok-clause-tells : goal.returns-in_err-summary-in-Ok-clause-tells
returns-in_err-summary-in-Ok-clause-tells g c =
    ends_stopped (g.S.BlobStore.seen c.args.store.now).held c.args.published.now c.args.producer.now.previous c.from_residual-in_err-summary-in-Ok.result _ c.from_residual-in_err-summary-in-Ok.ensures.1
