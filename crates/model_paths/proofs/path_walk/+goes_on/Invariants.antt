use Rattle.std.proofs.Common.{length}
use Rattle.model_paths.proofs.path_walk.+goes_on.Given as goal

abbrev pub decreases-goes_on : goal.decreases-goes_on
decreases-goes_on l = length l.fields.now
