use Rattle.delta_blob.proofs.PatchTelling.{patch_exactly}
use Rattle.delta_blob.proofs.laws.patch_passes.Goals as goal

pub returns : goal.returns
returns c = patch_exactly
