-- The texts that were passed resolve.
use Rattle.std.proofs.Common.{take}
use Rattle.consumer_orders.proofs.KeyWays.{AllResolve}
use Rattle.consumer_orders.proofs.key_paths.resolve_all.Given as goal

abbrev pub invariant-loop-text : goal.invariant-loop-text
invariant-loop-text l = AllResolve l.model l.type_index (take l.text-index l.texts) l.paths
