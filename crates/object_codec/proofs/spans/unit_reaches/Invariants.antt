use Rattle.std.proofs.Common.{◌-◌, ◌*◌, ◌≤◌, length}
use Rattle.object_codec.specs.Texts.{AreReaches, HoldUnits}
use Rattle.object_codec.proofs.spans.unit_reaches.Given as goal

abbrev pub invariant-loop-place : goal.invariant-loop-place
invariant-loop-place l = (l.place ≤ length l.bytes) × AreReaches l.bytes l.reaches.items × HoldUnits l.bytes (64 * length l.reaches.items) l.place

abbrev pub decreases-loop-place : goal.decreases-loop-place
decreases-loop-place l = length l.bytes - l.place
