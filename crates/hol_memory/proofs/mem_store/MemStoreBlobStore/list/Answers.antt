use Rattle.std.proofs.Common.{◌++◌, ap, sym}
use Rattle.hol_io.specs.Store.{names}
use Rattle.hol_memory.proofs.mem_store.MemStoreBlobStore.list.Goals as goal

pub returns-then-fails_now-clause-part : goal.returns-then-fails_now-clause-part
returns-then-fails_now-clause-part c =
    let all = names c.args.self.now.held in (all, ap (λ listed. listed ++ all) (sym c.requires))
