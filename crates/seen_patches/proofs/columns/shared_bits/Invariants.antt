use Rattle.std.proofs.Common.{◌≡◌, ◌≤◌, ◌*◌, take}
use Rattle.seen_patches.specs.Seen.{shared_bits}
use Rattle.seen_patches.proofs.columns.shared_bits.Given as goal

-- the widths of the first fields that both have, together, which are 64 each at most
abbrev pub invariant-loop-field : goal.invariant-loop-field
invariant-loop-field l = (l.bits ≡ shared_bits (take l.field-index l.mine) l.theirs l.widths) × (l.bits ≤ l.field-index * 64)
