use Rattle.std.proofs.Common.{◌-◌}
use Rattle.blob_cursor.specs.Scene.{scene}
use Rattle.blob_cursor.proofs.Seeking.{Seeking}
use Rattle.blob_cursor.proofs.cursor.Cursor.stops.Given as goal

abbrev pub invariant-loop-self : goal.invariant-loop-self
invariant-loop-self g l = Seeking (scene (g.S.BlobStore.seen l.initial.store) l.initial.self)
    (scene (g.S.BlobStore.seen l.store) l.self)

abbrev pub decreases-loop-self : goal.decreases-loop-self
decreases-loop-self g l = l.self.size - l.self.at
