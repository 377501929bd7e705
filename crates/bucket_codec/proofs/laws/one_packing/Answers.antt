use Rattle.bucket_codec.proofs.OnePacking.{packed_once}
use Rattle.bucket_codec.proofs.laws.one_packing.Goals as goal

pub returns : goal.returns
returns c = packed_once
