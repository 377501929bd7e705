use Rattle.hol_paths.proofs.KeptReach.{reach_kept}
use Rattle.hol_paths.proofs.laws.kept_reach.Goals as goal

pub returns : goal.returns
returns c = λ schemas old new t o parts v old_fits new_fits old_closed new_closed one was is. reach_kept schemas old new old_fits new_fits old_closed new_closed one t o parts v was is
