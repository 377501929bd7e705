use Rattle.std.proofs.Common.{map}
use Rattle.serde_json.specs.View.{view}
use Rattle.producer_orders.proofs.AddingRecords.{HasAdded}
use Rattle.producer_orders.proofs.records.add_values.Given as goal

abbrev pub invariant-loop-place : goal.invariant-loop-place
invariant-loop-place l = HasAdded l.type_index (map view l.values) l.initial.producer l.producer l.full_before l.full 0 l.place
