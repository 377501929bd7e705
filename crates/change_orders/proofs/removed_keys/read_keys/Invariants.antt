use Rattle.std.proofs.Common.{List, ◌++◌, map, take}
use Rattle.serde_json.specs.View.{view}
use Rattle.hollow_machine.specs.Records.{Entry, entries_at}
use Rattle.change_orders.specs.Reading.{GiveKeys}
use Rattle.change_orders.proofs.removed_keys.read_keys.Given as goal

-- the keys before the place are read behind the others
abbrev pub invariant-loop-value : goal.invariant-loop-value
invariant-loop-value l =
    (before : List Entry) → GiveKeys l.model before l.initial.found → GiveKeys l.model (before ++ take l.value-index (entries_at l.type_index (map view l.values))) l.found
