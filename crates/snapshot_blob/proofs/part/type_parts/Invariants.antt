use Rattle.std.specs.List.{All}
use Rattle.type_rows.specs.WellFormed.{IsWellFormed}
use Rattle.blob_cursor.specs.Scene.{scene}
use Rattle.blob_cursor.proofs.Counting.{Counts}
use Rattle.snapshot_blob.specs.Parts.{type_part}
use Rattle.snapshot_blob.specs.declared.part.TypePart.{TypePart}
use Rattle.snapshot_blob.proofs.part.type_parts.Given as goal

abbrev pub invariant-loop-item : goal.invariant-loop-item
invariant-loop-item g l = record {
  counts : Counts type_part l.count l._item (scene (g.S.BlobStore.seen l.initial.store) l.initial.cursor)
      (scene (g.S.BlobStore.seen l.store) l.cursor) l.list;
  whole : All (λ (part : TypePart). IsWellFormed part.schema.shape part.section) l.list;
}
