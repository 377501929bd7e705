use Rattle.std.proofs.Common.{◌≡◌, ℕ, ◌-◌, ◌≤◌, length, replicate}
use Rattle.record_trees.specs.declared.tree.Tree.{Tree as RowTree}
use Rattle.record_tokens.proofs.tree.null_slots.Given as goal

abbrev pub invariant-filling : goal.invariant-filling
invariant-filling l = (n : ℕ) × (l.slots.items ≡ replicate n RowTree.Null) × (n ≤ l.count)

abbrev pub decreases-filling : goal.decreases-filling
decreases-filling l = l.count - length l.slots.items
