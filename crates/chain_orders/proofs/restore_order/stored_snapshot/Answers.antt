use Rattle.std.proofs.Common.{sym}
use Rattle.chain_orders.proofs.Restoring.{not_stored}
use Rattle.chain_orders.proofs.restore_order.stored_snapshot.Goals as goal

pub returns-in_ok-refusal-in-Err-clause-tells : goal.returns-in_ok-refusal-in-Err-clause-tells
returns-in_ok-refusal-in-Err-clause-tells g c =
    not_stored (g.S.BlobStore.seen c.args.store.now).held c.args.version c.in-Err.fault c.in_ok-refusal-in-Err.refusal
    (sym c.in_ok-refusal-in-Err.ensures) c.in-Err.ensures.tells
