use Rattle.std.proofs.Common.{◌≡◌, ◌++◌, replicate, take}
use Rattle.row_model.specs.declared.row.Value.{Value}
use Rattle.write_engine.proofs.growing.padded_row.Given as goal

abbrev pub invariant-loop-place : goal.invariant-loop-place
invariant-loop-place l = l.padded ≡ take l.place (l.values ++ replicate l.count Value.Null)
