use Rattle.std.proofs.Common.{◌≡◌, sum, take}
use Rattle.seen_patches.specs.Elements.{columns_from}
use Rattle.seen_patches.proofs.column.columns_of.Given as goal

-- the columns of the first widths, and how many bits these are together
abbrev pub invariant-loop-width : goal.invariant-loop-width
invariant-loop-width l = (l.columns.items ≡ columns_from l.size 0 (take l.width-index l.widths)) × (l.before ≡ sum (take l.width-index l.widths))
