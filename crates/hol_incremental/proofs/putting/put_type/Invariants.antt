use Rattle.std.proofs.Common.{◌≡◌, take}
use Rattle.hol_incremental.specs.Changes.{records}
use Rattle.hol_incremental.specs.Edited.{of_type}
use Rattle.hol_incremental.specs.Tops.{AddsMore}
use Rattle.hol_incremental.proofs.putting.put_type.Given as goal

abbrev pub invariant-loop-entry : goal.invariant-loop-entry
invariant-loop-entry l = record {
  added : AddsMore l.initial.producer.schemas l.initial.producer.previous (of_type l.type_index (records (take l.entry-index l.puts))) l.initial.producer.current l.initial.tops l.producer.current l.tops;
  kept : l.producer ≡ record l.initial.producer { current = l.producer.current };
}
