use Rattle.std.proofs.Common.{length}
use Rattle.hol_incremental.proofs.tree_key.+value_along.Given as goal

abbrev pub decreases-value_along : goal.decreases-value_along
decreases-value_along l = length l.fields.now
