use Rattle.std.proofs.Common.{arith, subst, sym, ℕ, Option, get_or}
use Rattle.chain_check.specs.Walk.{TellsVersion, calls_by}
use Rattle.chain_check.proofs.Passing.{last_at}
use Rattle.chain_check.proofs.checking.visit.Goals as goal

pub returns-else-place-eq0-clause-tells : goal.returns-else-place-eq0-clause-tells
returns-else-place-eq0-clause-tells g c =
    subst
    (λ (from : Option ℕ). TellsVersion (calls_by g.W.Walk.loads g.W.Walk.steps g.W.Walk.tag g.W.Rows.schemas g.W.Rows.table) (g.S.BlobStore.seen c.args.store.now).held from (get_or c.args.versions.now c.args.place 0) (record { walker = c.args.walker.now; fresh = c.args.fresh.now })
    (record { walker = c.go_on.new.walker; fresh = c.go_on.new.fresh }) c.go_on.result)
    (sym (last_at c.args.versions.now c.args.place (omega (arith, c.if-place-eq0.false)) c.requires.inside)) c.go_on.ensures.tells
