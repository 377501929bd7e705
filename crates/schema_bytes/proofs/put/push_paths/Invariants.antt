-- The paths before this one are written, behind what stood there.
use Rattle.std.proofs.Common.{◌≡◌, ◌++◌, take, flat_map}
use Rattle.schema_model.specs.Schema.{name_bytes}
use Rattle.schema_bytes.proofs.put.push_paths.Given as goal

abbrev pub invariant-loop-path : goal.invariant-loop-path
invariant-loop-path l = l.out.items ≡ l.initial.out.items ++ flat_map name_bytes (take l.path-index l.path-items)
