use Rattle.chain_check.specs.Walk.{calls_by}
use Rattle.chain_check.proofs.Exactly.{differs_exactly, passes_exactly}
use Rattle.chain_check.proofs.checking.check.Goals as goal

pub returns-clause-passes : goal.returns-clause-passes
returns-clause-passes g c =
    passes_exactly (calls_by g.W.Walk.loads g.W.Walk.steps g.W.Walk.tag g.W.Rows.schemas g.W.Rows.table) g.met.W.Walk.one_load g.met.W.Walk.one_step c.args.versions.now
    (record { walker = c.args.walker.now; fresh = c.args.fresh.now }) (record { walker = c.check_each.new.walker; fresh = c.check_each.new.fresh }) c.check_each.result
    (g.S.BlobStore.seen c.args.store.now).held c.check_each.ensures.counted c.check_each.ensures.tells

pub returns-clause-differs : goal.returns-clause-differs
returns-clause-differs g c =
    differs_exactly (calls_by g.W.Walk.loads g.W.Walk.steps g.W.Walk.tag g.W.Rows.schemas g.W.Rows.table) g.met.W.Walk.one_load g.met.W.Walk.one_step c.args.versions.now
    (record { walker = c.args.walker.now; fresh = c.args.fresh.now }) (record { walker = c.check_each.new.walker; fresh = c.check_each.new.fresh }) c.check_each.result
    (g.S.BlobStore.seen c.args.store.now).held c.check_each.ensures.tells
