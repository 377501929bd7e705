use Rattle.bucket_codec.proofs.LookUps.{has_is}
use Rattle.bucket_codec.proofs.buckets.Buckets.has.Goals as goal

pub returns : goal.returns
returns c = λ pairs spelled. has_is pairs c.args.key c.find.result c.is_some.result c.is_some.ensures (c.find.ensures pairs spelled)
