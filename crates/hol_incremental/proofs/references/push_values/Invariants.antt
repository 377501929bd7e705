use Rattle.std.proofs.Common.{◌≡◌, ◌++◌, flat_map, take, zip}
use Rattle.row_model.specs.Row.{references_of_value}
use Rattle.hol_incremental.specs.Counts.{indexed}
use Rattle.hol_incremental.proofs.references.push_values.Given as goal

abbrev pub invariant-loop-place : goal.invariant-loop-place
invariant-loop-place l = l.named.items ≡ l.initial.named.items ++ indexed l.model (flat_map (λ part. references_of_value part.0.kind part.1) (take l.place (zip l.fields l.values)))
