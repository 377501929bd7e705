use Rattle.hol_orders.specs.Parts.{added}
use Rattle.producer_orders.proofs.Placed.{front_entries}
use Rattle.change_orders.specs.Reading.{HaveRead}
use Rattle.change_orders.proofs.put_records.put_records.Given as goal

-- the records of the types before this one are read
abbrev pub invariant-loop-type_index : goal.invariant-loop-type_index
invariant-loop-type_index l = HaveRead l.model (front_entries l.model (added l.put) l.type_index) l.found
