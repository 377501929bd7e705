use Rattle.std.proofs.Common.{arith, ◌∙◌, refl}
use Rattle.bucket_codec.proofs.Streaks.{steps_from}
use Rattle.bucket_codec.proofs.buckets.Buckets.steps_behind.Goals as goal

pub returns-else-home-place-clause-is : goal.returns-else-home-place-clause-is
returns-else-home-place-clause-is c =
    (steps_from c.args.self.len c.args.key c.from.result c.args.place _ (c.from.ensures ∙ c.hash_int.ensures) c.requires (λ h. omega arith) (λ h. refl)).0
