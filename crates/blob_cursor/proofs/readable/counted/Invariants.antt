use Rattle.std.proofs.Common.{◌≡◌, length}
use Rattle.blob_cursor.specs.Scene.{scene}
use Rattle.blob_cursor.proofs.Counting.{Counts}
use Rattle.blob_cursor.proofs.readable.counted.Given as goal

abbrev pub invariant-loop-item : goal.invariant-loop-item
invariant-loop-item g l = Counts g.T.Readable.form l.count l._item (scene (g.S.BlobStore.seen l.initial.store) l.initial.cursor)
    (scene (g.S.BlobStore.seen l.store) l.cursor) l.list
    × (length l.list ≡ l._item)
