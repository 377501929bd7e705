use Rattle.hol_paths.proofs.Turning as turning
use Rattle.hol_paths.proofs.laws.step_followed.Goals as goal

pub returns : goal.returns
returns c = λ schemas old new t parts entries removed added old_fits new_fits old_closed new_closed one moves are. turning.step_followed schemas old new t parts entries removed added old_fits new_fits old_closed new_closed one moves are
