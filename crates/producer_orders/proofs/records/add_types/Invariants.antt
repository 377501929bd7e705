use Rattle.hol_orders.specs.Parts.{added}
use Rattle.producer_orders.proofs.AddingRecords.{HasAddedTypes}
use Rattle.producer_orders.proofs.records.add_types.Given as goal

abbrev pub invariant-loop-type_index : goal.invariant-loop-type_index
invariant-loop-type_index l = HasAddedTypes (added l.add) l.initial.producer l.producer l.full l.type_index
