use Rattle.std.proofs.Common.{length}
use Rattle.model_paths.proofs.path_walk.+follow_names.Given as goal

abbrev pub decreases-follow_names : goal.decreases-follow_names
decreases-follow_names l = length l.text.now
