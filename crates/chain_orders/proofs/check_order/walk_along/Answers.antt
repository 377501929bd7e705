use Rattle.chain_orders.proofs.Checking.{counts, walked}
use Rattle.chain_orders.proofs.check_order.walk_along.Goals as goal

pub returns-clause-tells : goal.returns-clause-tells
returns-clause-tells g c =
    walked (g.S.BlobStore.seen c.args.store.now).held c.args.versions.now c.new-walker.result c.new-fresh.result (record { walker = c.check.new.walker; fresh = c.check.new.fresh }) c.check.result
    c.new-walker.ensures c.new-fresh.ensures c.check.ensures.tells

pub returns-clause-compared : goal.returns-clause-compared
returns-clause-compared g c =
    counts (g.S.BlobStore.seen c.args.store.now).held c.args.versions.now (record { walker = c.new-walker.result; fresh = c.new-fresh.result })
    (record { walker = c.check.new.walker; fresh = c.check.new.fresh }) c.check.result c.check.ensures.passes c.check.ensures.tells
