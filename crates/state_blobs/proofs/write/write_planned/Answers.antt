use Rattle.std.proofs.Common.{arith}
use Rattle.std.specs.Prelude.{IfErr}
use Rattle.blob_writing.specs.Limits.{MeansLarge}
use Rattle.state_blobs.specs.Published.{published_of}
use Rattle.state_blobs.specs.Puts.{AreLater}
use Rattle.state_blobs.specs.Blobs.{AreNotShort}
use Rattle.state_blobs.proofs.Tags.{at_tag}
use Rattle.state_blobs.proofs.Writing.{later_long}
use Rattle.state_blobs.proofs.write.write_planned.Goals as goal

pub returns-else-version-eq0-clause-large : goal.returns-else-version-eq0-clause-large
returns-else-version-eq0-clause-large c =
    let last = published_of c.args.producer.now in
    let rows = c.args.producer.now.current in
    let means = at_tag (λ t. IfErr c.write_later.result (MeansLarge (AreNotShort (AreLater last rows c.args.version t c.args.with_snapshot)))) c.args.tag c.ranges.tag c.write_later.ensures.large in
    later_long last rows c.args.version c.args.tag c.args.with_snapshot (λ first. absurd (omega (arith, c.if-version-eq0.false, c.version.ensures, first))) c.write_later.result means
