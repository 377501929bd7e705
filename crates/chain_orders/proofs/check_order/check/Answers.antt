use Rattle.std.proofs.Common.{arith, sym}
use Rattle.chain_orders.proofs.Checking.{checked, different, refused}
use Rattle.chain_orders.proofs.check_order.check.Goals as goal

pub returns-in-Ok-clause-reply : goal.returns-in-Ok-clause-reply
returns-in-Ok-clause-reply g c =
    checked (g.S.BlobStore.seen c.args.store.now).held c.args.versions.now c.as_slice.result.now c.in-Ok.compared _ c.as_slice.ensures (omega (arith, c.len.ensures)) c.in-Ok.ensures.compared c.in-Ok.ensures.tells

pub returns-in_ok-refusal-in-Err-Walk-clause-reply : goal.returns-in_ok-refusal-in-Err-Walk-clause-reply
returns-in_ok-refusal-in-Err-Walk-clause-reply g c =
    refused (g.S.BlobStore.seen c.args.store.now).held c.args.versions.now c.as_slice.result.now c.in-Err-Walk.field-0 c.in-Err-Walk.name c.in-Err-Walk.fault c.in_ok-refusal-in-Err-Walk.refusal
    c.as_slice.ensures c.in-Err-Walk.field-0-is (sym c.in_ok-refusal-in-Err-Walk.ensures) c.in-Err-Walk.ensures.tells

pub returns-in-Err-Mismatch-clause-reply : goal.returns-in-Err-Mismatch-clause-reply
returns-in-Err-Mismatch-clause-reply g c =
    different (g.S.BlobStore.seen c.args.store.now).held c.args.versions.now c.as_slice.result.now c.in-Err-Mismatch.field-0 c.in-Err-Mismatch.version c.in-Err-Mismatch.type_name c.in-Err-Mismatch.ordinal
    c.as_slice.ensures c.in-Err-Mismatch.field-0-is c.in-Err-Mismatch.ensures.tells
