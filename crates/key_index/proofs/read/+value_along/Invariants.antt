use Rattle.std.proofs.Common.{length}
use Rattle.key_index.proofs.read.+value_along.Given as goal

abbrev pub decreases-value_along : goal.decreases-value_along
decreases-value_along g l = length l.fields.now
