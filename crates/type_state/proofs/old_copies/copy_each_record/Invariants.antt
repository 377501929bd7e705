use Rattle.object_codec.proofs.PlacesPacked.{PackedSoFar}
use Rattle.type_state.specs.KeptRecords.{kept_rows}
use Rattle.type_state.specs.OldRecords.{rows_under}
use Rattle.type_state.proofs.old_copies.copy_each_record.Given as goal

abbrev pub invariant-loop-place : goal.invariant-loop-place
invariant-loop-place l = PackedSoFar l.schema.shape l.kept.half.now.widths (rows_under (kept_rows l.kept) l.ordinals) l.first l.areas l.place
