use Rattle.std.proofs.Common.{length}
use Rattle.model_paths.proofs.walk_steps.+walk_names.Given as goal

abbrev pub decreases-walk_names : goal.decreases-walk_names
decreases-walk_names l = length l.text.now
