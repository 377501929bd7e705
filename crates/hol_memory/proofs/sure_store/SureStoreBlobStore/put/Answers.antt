use Rattle.std.proofs.Common.{All, ◌<◌, subst, sym}
use Rattle.hol_memory.specs.Entries.{store_of}
use Rattle.hol_memory.proofs.EntryLemmas.{holds_inserted, insert_same}
use Rattle.hol_memory.proofs.sure_store.SureStoreBlobStore.put.Goals as goal

pub invariant_of-self-2 : goal.invariant_of-self-2
invariant_of-self-2 c =
    let content = c.in_ok-content.content in
    holds_inserted (store_of c.self.inside.entries.entries) (store_of c.insert.new.self.entries) c.args.name.now content.items
    (insert_same c.self.inside.entries.entries c.insert.new.self.entries c.args.name.now content c.in_ok-insert.ensures.updates.0)
    (subst (All (λ byte. byte < 256)) (sym c.in_ok-content.ensures.items) c.are_bytes.ensures)
    c.self.invariant
