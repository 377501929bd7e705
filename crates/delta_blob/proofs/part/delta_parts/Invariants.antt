use Rattle.std.specs.List.{All}
use Rattle.blob_cursor.specs.Scene.{scene}
use Rattle.blob_cursor.proofs.Counting.{Counts}
use Rattle.delta_blob.specs.Parts.{IsWellFormedPart, patch_part}
use Rattle.delta_blob.proofs.part.delta_parts.Given as goal

abbrev pub invariant-loop-item : goal.invariant-loop-item
invariant-loop-item g l = record {
  counts : Counts patch_part l.count l._item (scene (g.S.BlobStore.seen l.initial.store) l.initial.cursor)
      (scene (g.S.BlobStore.seen l.store) l.cursor) l.list;
  whole : All IsWellFormedPart l.list;
}
