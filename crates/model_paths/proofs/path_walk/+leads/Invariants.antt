use Rattle.std.proofs.Common.{length}
use Rattle.model_paths.proofs.path_walk.+leads.Given as goal

abbrev pub decreases-leads : goal.decreases-leads
decreases-leads l = length l.fields.now
