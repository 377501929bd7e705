use Rattle.std.proofs.Common.{◌≡◌, take}
use Rattle.std.specs.List.{flat_map}
use Rattle.hol_paths.specs.Reached.{named_at}
use Rattle.hol_paths.proofs.levels.named_ordinals.Given as goal

-- what the rows before this one name is there
abbrev pub invariant-loop-ordinal : goal.invariant-loop-ordinal
invariant-loop-ordinal g l = l.named.items ≡ flat_map (named_at (g.R.Rows.table l.rows) l.type_index l.part) (take l.ordinal-index l.level)
