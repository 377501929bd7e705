use Rattle.std.proofs.Common.{length}
use Rattle.hol_paths.proofs.read.+values_along.Given as goal

abbrev pub decreases-values_along : goal.decreases-values_along
decreases-values_along g l = length l.parts.now
