use Rattle.type_rows.specs.Free.{AreFree}
use Rattle.type_rows.proofs.records.are_free.Given as goal

abbrev pub invariant-loop-index : goal.invariant-loop-index
invariant-loop-index l = AreFree l.fields l.widths l.index
