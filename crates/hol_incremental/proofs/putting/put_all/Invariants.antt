use Rattle.std.proofs.Common.{◌≡◌}
use Rattle.hol_incremental.specs.Changes.{records}
use Rattle.hol_incremental.specs.Edited.{of_first}
use Rattle.hol_incremental.specs.Tops.{AddsMore}
use Rattle.hol_incremental.proofs.putting.put_all.Given as goal

abbrev pub invariant-loop-type_index : goal.invariant-loop-type_index
invariant-loop-type_index l = record {
  added : AddsMore l.initial.producer.schemas l.initial.producer.previous (of_first l.type_index (records l.puts)) l.initial.producer.current l.initial.tops l.producer.current l.tops;
  kept : l.producer ≡ record l.initial.producer { current = l.producer.current };
}
