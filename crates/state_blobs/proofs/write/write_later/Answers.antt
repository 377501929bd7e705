use Rattle.std.proofs.Common.{◌≡◌, true}
use Rattle.std.proofs.lemmas.Result.{err_from_is_err_and}
use Rattle.blob_writing.specs.Limits.{MeansLarge}
use Rattle.blob_writing.specs.Snapshot.{IsWrittenSnapshot}
use Rattle.blob_writing.specs.Changes.{IsDeltaBetween}
use Rattle.state_blobs.specs.Published.{published_of}
use Rattle.state_blobs.specs.Puts.{AreLater}
use Rattle.state_blobs.specs.Blobs.{AreLong, AreNotShort}
use Rattle.state_blobs.proofs.Tags.{at_tag}
use Rattle.state_blobs.proofs.Writing.{delta_long, means_more, reverse_long, snapshot_long}
use Rattle.state_blobs.proofs.write.write_later.Goals as goal

pub returns-in_err-delta-clause-large : goal.returns-in_err-delta-clause-large
returns-in_err-delta-clause-large c =
    let p = err_from_is_err_and c.from_residual.result c.from_residual.ensures.1 in
    let made = c.args.producer.now in
    let fault = c.in_err-delta.field-0.0 in
    let means = at_tag (λ t. MeansLarge (AreLong (IsDeltaBetween made.schemas made.previous made.current made.tag t)) fault) c.args.tag c.ranges.tag c.in_err-delta.ensures.large in
    rw (p.1, p.2)
    (means_more (AreLong (IsDeltaBetween made.schemas made.previous made.current made.tag c.args.tag)) (AreNotShort (AreLater (published_of made) made.current c.args.version c.args.tag c.args.with_snapshot)) fault
    (delta_long (published_of made) made.current c.args.version c.args.tag c.args.with_snapshot) means)

pub returns-in_err-reverse-clause-large : goal.returns-in_err-reverse-clause-large
returns-in_err-reverse-clause-large c =
    let p = err_from_is_err_and c.from_residual-in_err-reverse.result c.from_residual-in_err-reverse.ensures.1 in
    let made = c.args.producer.now in
    let fault = c.in_err-reverse.field-0.0 in
    let means = at_tag (λ t. MeansLarge (AreLong (IsDeltaBetween made.schemas made.current made.previous t made.tag)) fault) c.args.tag c.ranges.tag c.in_err-reverse.ensures.large in
    rw (p.1, p.2)
    (means_more (AreLong (IsDeltaBetween made.schemas made.current made.previous c.args.tag made.tag)) (AreNotShort (AreLater (published_of made) made.current c.args.version c.args.tag c.args.with_snapshot)) fault
    (reverse_long (published_of made) made.current c.args.version c.args.tag c.args.with_snapshot) means)

pub returns-in_err-snapshot-clause-large : goal.returns-in_err-snapshot-clause-large
returns-in_err-snapshot-clause-large c =
    let p = err_from_is_err_and c.from_residual-in_err-snapshot.result c.from_residual-in_err-snapshot.ensures.1 in
    let made = c.args.producer.now in
    let fault = c.in_err-snapshot.field-0.0 in
    let means = at_tag (λ t. MeansLarge ((c.args.with_snapshot ≡ true) × AreLong (IsWrittenSnapshot made.schemas made.previous made.current made.tag t)) fault) c.args.tag c.ranges.tag c.in_err-snapshot.ensures.large in
    rw (p.1, p.2)
    (means_more ((c.args.with_snapshot ≡ true) × AreLong (IsWrittenSnapshot made.schemas made.previous made.current made.tag c.args.tag)) (AreNotShort (AreLater (published_of made) made.current c.args.version c.args.tag c.args.with_snapshot)) fault
    (λ both. snapshot_long (published_of made) made.current c.args.version c.args.tag c.args.with_snapshot both.0 both.1) means)
