use Rattle.std.proofs.Common.{◌-◌, ◌∙◌, refl}
use Rattle.bucket_codec.proofs.FoundKeys.{home_masked}
use Rattle.bucket_codec.proofs.buckets.Buckets.home.Goals as goal

pub returns-clause-is : goal.returns-clause-is
returns-clause-is c = home_masked c.args.self.len c.args.key c.from.result (c.args.self.len - 1) c.requires (c.from.ensures ∙ c.hash_int.ensures) refl
