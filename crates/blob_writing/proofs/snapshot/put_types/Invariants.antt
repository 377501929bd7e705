-- The types before this one are written, behind their number.
use Rattle.blob_writing.proofs.Progress.{AreWrittenTo}
use Rattle.blob_writing.specs.Snapshot.{IsCarriedOf, type_bytes}
use Rattle.blob_writing.proofs.snapshot.put_types.Given as goal

abbrev pub invariant-loop-type_index : goal.invariant-loop-type_index
invariant-loop-type_index g l =
    AreWrittenTo (IsCarriedOf (g.B.Rows.schemas l.new) (g.A.Rows.table l.old) (g.B.Rows.table l.new)) type_bytes l.types l.type_index-index l.initial.out.items l.out.items
