use Rattle.bucket_codec.specs.Buckets.{run_of}
use Rattle.bucket_codec.proofs.FoundKeys.{steps_empty, steps_taken}
use Rattle.bucket_codec.proofs.buckets.Buckets.steps_at.Goals as goal

pub returns-in-Some : goal.returns-in-Some
returns-in-Some c =
    steps_taken (run_of c.args.self) c.args.self.len c.args.index c.in-Some.key c.in-Some.field-0-1 c.steps_to.result (c.in-Some.ensures c.requires.ranges) c.steps_to.ensures

pub returns-in-None : goal.returns-in-None
returns-in-None c = steps_empty (run_of c.args.self) c.args.self.len c.args.index (c.in-None.ensures c.requires.ranges)
