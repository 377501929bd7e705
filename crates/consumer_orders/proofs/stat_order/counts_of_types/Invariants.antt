-- The types that were passed are counted.
use Rattle.consumer_orders.proofs.Counting.{AreCounted}
use Rattle.consumer_orders.proofs.stat_order.counts_of_types.Given as goal

abbrev pub invariant-loop-type_index : goal.invariant-loop-type_index
invariant-loop-type_index l = AreCounted l.consumer l.type_index l.types
