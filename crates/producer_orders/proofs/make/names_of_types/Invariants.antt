-- The names are those of the types before this one.
use Rattle.std.proofs.Common.{take}
use Rattle.hollow_machine.specs.CycleOrder.{AreNamed}
use Rattle.producer_orders.proofs.make.names_of_types.Given as goal

abbrev pub invariant-loop-type_index : goal.invariant-loop-type_index
invariant-loop-type_index l = AreNamed l.model (take l.type_index-index l.types) l.names
