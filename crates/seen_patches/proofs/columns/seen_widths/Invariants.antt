use Rattle.std.proofs.Common.{◌≡◌, take}
use Rattle.seen_patches.specs.Seen.{seen_widths}
use Rattle.seen_patches.proofs.columns.seen_widths.Given as goal

-- the widths of the first fields
abbrev pub invariant-loop-field : goal.invariant-loop-field
invariant-loop-field l = l.seen ≡ seen_widths (take l.field-index l.mine) l.theirs l.widths
