-- The words before this place are written, behind what stood there.
use Rattle.std.proofs.Common.{◌≡◌, ◌≤◌, ◌++◌, ◌-◌, length, take, flat_map}
use Rattle.std.specs.Int.{w64, to_be_bytes}
use Rattle.blob_writing.proofs.items.push_words.Given as goal

abbrev pub invariant-loop-place : goal.invariant-loop-place
invariant-loop-place l = (l.place ≤ length l.words) × (l.out.items ≡ l.initial.out.items ++ flat_map (to_be_bytes w64) (take l.place l.words))

abbrev pub decreases-loop-place : goal.decreases-loop-place
decreases-loop-place l = length l.words - l.place
