use Rattle.step_laws.proofs.Stepping.{passes_exactly}
use Rattle.step_laws.proofs.laws.step_passes.Goals as goal

pub returns : goal.returns
returns c = λ blob from tag rows typed. passes_exactly blob from typed tag rows
