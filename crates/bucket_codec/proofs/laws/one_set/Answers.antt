use Rattle.bucket_codec.proofs.Sorted.{run_once}
use Rattle.bucket_codec.proofs.laws.one_set.Goals as goal

pub returns : goal.returns
returns c = run_once
