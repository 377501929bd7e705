use Rattle.written_laws.proofs.MovedOnce.{moved_once}
use Rattle.delta_blob.proofs.OnePatch.{patch_once, tags_once}
use Rattle.written_laws.proofs.laws.one_patch.Goals as goal

pub returns : goal.returns
returns c = record { tags = tags_once; patch = patch_once; table = moved_once }
