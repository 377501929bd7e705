use Rattle.std.proofs.Common.{◌≡◌, ◌++◌}
use Rattle.hol_io.specs.Store.{names}
use Rattle.hol_memory.proofs.sure_store.SureStoreBlobStore.list.Given as goal

-- The names so far and those that are left are all of them.
abbrev pub invariant-loop-name : goal.invariant-loop-name
invariant-loop-name l = l.out.items ++ l.name-iterator ≡ names l.fn.self.held
