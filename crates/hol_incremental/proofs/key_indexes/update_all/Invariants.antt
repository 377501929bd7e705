use Rattle.std.proofs.Common.{◌≡◌, ◌++◌, take, drop, map}
use Rattle.hol_incremental.specs.Keeping.{moved}
use Rattle.hol_incremental.proofs.key_indexes.update_all.Given as goal

abbrev pub invariant-loop-index : goal.invariant-loop-index
invariant-loop-index l = l.index-items ≡ map moved (take l.index-index l.fn.keys.items) ++ drop l.index-index l.fn.keys.items
