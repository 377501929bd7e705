use Rattle.std.proofs.Common.{ℕ, ◌<◌, ◌≤◌, get_or}
use Rattle.object_codec.specs.Sound.{ArePlain}
use Rattle.object_codec.proofs.sound.is_plain.Given as goal

abbrev pub invariant-loop-byte : goal.invariant-loop-byte
invariant-loop-byte l = ((k : ℕ) → k < l.byte-index → get_or l.bytes k 0 ≤ l.greatest) × (ArePlain l.bytes → l.greatest < 128)
