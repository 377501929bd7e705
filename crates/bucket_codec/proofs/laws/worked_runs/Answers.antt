use Rattle.std.proofs.Common.{refl}
use Rattle.bucket_codec.specs.Hash.{hash_of}
use Rattle.bucket_codec.proofs.laws.worked_runs.Goals as goal

pub returns : goal.returns
unfolding hash_of
returns c = record { two = refl; one = refl; round = refl }
