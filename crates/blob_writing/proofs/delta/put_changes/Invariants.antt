-- The changes of the types before this one are written, behind their number.
use Rattle.blob_writing.proofs.Progress.{AreWrittenTo}
use Rattle.blob_writing.specs.Changes.{IsChangeOf}
use Rattle.blob_writing.specs.Delta.{change_bytes}
use Rattle.blob_writing.proofs.delta.put_changes.Given as goal

abbrev pub invariant-loop-type_index : goal.invariant-loop-type_index
invariant-loop-type_index g l =
    AreWrittenTo (IsChangeOf (g.B.Rows.schemas l.new) (g.A.Rows.table l.old) (g.B.Rows.table l.new)) change_bytes l.plan.changed l.type_index-index l.initial.out.items l.out.items
