use Rattle.std.proofs.Common.{◌≡◌, ℕ, ◌-◌, ◌≤◌, length, replicate}
use Rattle.row_model.specs.declared.row.Value.{Value}
use Rattle.record_tokens.proofs.row.null_values.Given as goal

abbrev pub invariant-filling : goal.invariant-filling
invariant-filling l = (n : ℕ) × (l.slots.items ≡ replicate n Value.Null) × (n ≤ l.count)

abbrev pub decreases-filling : goal.decreases-filling
decreases-filling l = l.count - length l.slots.items
