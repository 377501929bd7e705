use Rattle.std.proofs.Common.{◌≡◌, ◌++◌, take, drop, map}
use Rattle.hol_incremental.specs.Keeping.{settled}
use Rattle.hol_incremental.proofs.key_indexes.forget_all.Given as goal

abbrev pub invariant-loop-index : goal.invariant-loop-index
invariant-loop-index l = l.index-items ≡ map settled (take l.index-index l.fn.keys.items) ++ drop l.index-index l.fn.keys.items
