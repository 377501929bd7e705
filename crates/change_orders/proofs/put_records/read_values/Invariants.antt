use Rattle.std.proofs.Common.{List, ◌++◌, map, take}
use Rattle.serde_json.specs.View.{view}
use Rattle.hollow_machine.specs.Records.{Entry, entries_at}
use Rattle.change_orders.specs.Reading.{HaveRead}
use Rattle.change_orders.proofs.put_records.read_values.Given as goal

-- the records before the place are read behind the others
abbrev pub invariant-loop-place : goal.invariant-loop-place
invariant-loop-place l = (before : List Entry) → HaveRead l.model (before ++ take l.from (entries_at l.type_index (map view l.values))) l.initial.found → HaveRead l.model (before ++ take l.place (entries_at l.type_index (map view l.values))) l.found
