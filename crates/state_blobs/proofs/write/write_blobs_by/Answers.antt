use Rattle.std.specs.Prelude.{IfErr}
use Rattle.blob_writing.specs.Limits.{MeansLarge}
use Rattle.state_blobs.specs.Published.{published_of}
use Rattle.state_blobs.specs.Puts.{AreBlobs}
use Rattle.state_blobs.specs.Blobs.{AreNotShort}
use Rattle.state_blobs.proofs.Tags.{at_tag}
use Rattle.state_blobs.proofs.write.write_blobs_by.Goals as goal

pub returns-clause-large : goal.returns-clause-large
returns-clause-large c =
    at_tag (λ t. IfErr c.write_planned.result (MeansLarge (AreNotShort (AreBlobs (published_of c.args.producer.now) c.args.producer.now.current c.args.version t c.args.with_snapshot)))) c.args.tag c.ranges.tag
    c.write_planned.ensures.large
