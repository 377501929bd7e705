use Rattle.std.proofs.Common.{◌≡◌, ◌≤◌, ◌+◌, ◌-◌, ◌*◌, ◌^◌, length}
use Rattle.std.specs.Int.{w64}
use Rattle.blob_frame.specs.Item.{fixed}
use Rattle.blob_cursor.specs.Scene.{scene}
use Rattle.blob_cursor.proofs.Counting.{Counts}
use Rattle.blob_cursor.proofs.cursor.Cursor.words.Given as goal

abbrev pub invariant-loop-self : goal.invariant-loop-self
invariant-loop-self g l = Counts (fixed w64) l.count (length l.list) (scene (g.S.BlobStore.seen l.initial.store) l.initial.self)
    (scene (g.S.BlobStore.seen l.store) l.self) l.list
    × (l.self.at ≡ l.initial.self.at + 8 * length l.list) × (8 * length l.list ≤ 2 ^ 28) × (length l.list ≤ l.count)

abbrev pub decreases-loop-self : goal.decreases-loop-self
decreases-loop-self g l = l.count - length l.list
