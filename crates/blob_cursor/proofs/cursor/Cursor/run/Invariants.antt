use Rattle.std.proofs.Common.{◌-◌, length}
use Rattle.blob_cursor.specs.Scene.{scene}
use Rattle.blob_cursor.proofs.Runs.{Gathers}
use Rattle.blob_cursor.proofs.cursor.Cursor.run.Given as goal

abbrev pub invariant-loop-self : goal.invariant-loop-self
invariant-loop-self g l = Gathers l.count (scene (g.S.BlobStore.seen l.initial.store) l.initial.self)
    (scene (g.S.BlobStore.seen l.store) l.self) l.bytes.items

abbrev pub decreases-loop-self : goal.decreases-loop-self
decreases-loop-self g l = l.count - length l.bytes.items
