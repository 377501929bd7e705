use Rattle.std.proofs.Common.{◌≡◌, ◌≤◌, length}
use Rattle.std.specs.List.{All}
use Rattle.blob_cursor.specs.Scene.{scene}
use Rattle.blob_cursor.proofs.Counting.{Counts}
use Rattle.blob_sections.specs.Width.{part_width}
use Rattle.blob_sections.proofs.widths.part_widths.Given as goal

abbrev pub invariant-loop-item : goal.invariant-loop-item
invariant-loop-item g l = record {
  counts : Counts part_width l.count l._item (scene (g.S.BlobStore.seen l.initial.store) l.initial.cursor)
      (scene (g.S.BlobStore.seen l.store) l.cursor) l.widths;
  long : length l.widths ≡ l._item;
  narrow : All (λ width. width ≤ 64) l.widths;
}
