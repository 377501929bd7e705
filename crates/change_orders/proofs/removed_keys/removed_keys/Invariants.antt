use Rattle.serde_json.specs.View.{view}
use Rattle.producer_orders.proofs.Placed.{front_entries}
use Rattle.change_orders.specs.Reading.{GiveKeys}
use Rattle.change_orders.proofs.removed_keys.removed_keys.Given as goal

-- the keys of the types before this one are read
abbrev pub invariant-loop-type_index : goal.invariant-loop-type_index
invariant-loop-type_index l = GiveKeys l.model (front_entries l.model (view l.remove) l.type_index) l.found
