use Rattle.std.proofs.Common.{◌<◌, ◌≤◌, drop, length, take}
use Rattle.std.specs.Prelude.{All}
use Rattle.std.specs.List.{AllZip}
use Rattle.hol_incremental.specs.Changes.{records}
use Rattle.hol_orders.specs.Parts.{AskedChange}
use Rattle.hollow_machine.specs.ChangeOrder.{ArePut}
use Rattle.hollow_machine.specs.Records.{entries}
use Rattle.change_orders.specs.declared.keyed_records.KeyAt.{KeyAt}
use Rattle.change_orders.specs.Keys.{IsKeyOf}
use Rattle.change_orders.proofs.KeyedRecords.{IsRun}
use Rattle.change_orders.proofs.keyed_records.read_keys.Given as goal

-- the keys of the records before the place are found, and their places are counted
abbrev pub invariant-loop-entry : goal.invariant-loop-entry
invariant-loop-entry l = record {
  types : All (λ (one : KeyAt). one.type_index < length l.model) l.found;
  few : l.place ≤ l.entry-index;
  keyed : (asked : AskedChange) → ArePut l.model asked (records l.put)
      → IsRun l.last l.place (drop l.entry-index (entries l.model asked.put)) × AllZip (IsKeyOf l.model) (take l.entry-index (entries l.model asked.put)) l.found;
}
