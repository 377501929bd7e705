use Rattle.std.proofs.lemmas.Result.{err_from_is_err_and}
use Rattle.blob_writing.specs.Limits.{MeansLarge}
use Rattle.blob_writing.specs.Snapshot.{IsWrittenSnapshot}
use Rattle.state_blobs.specs.Published.{published_of}
use Rattle.state_blobs.specs.Puts.{AreFirst}
use Rattle.state_blobs.specs.Blobs.{AreLong, AreNotShort}
use Rattle.state_blobs.proofs.Tags.{at_tag}
use Rattle.state_blobs.proofs.Writing.{first_long, means_more}
use Rattle.state_blobs.proofs.write.write_first.Goals as goal

pub returns-in_err-snapshot-clause-large : goal.returns-in_err-snapshot-clause-large
returns-in_err-snapshot-clause-large c =
    let p = err_from_is_err_and c.from_residual.result c.from_residual.ensures.1 in
    let made = c.args.producer.now in
    let fault = c.in_err-snapshot.field-0.0 in
    let means = at_tag (λ t. MeansLarge (AreLong (IsWrittenSnapshot made.schemas made.previous made.current made.tag t)) fault) c.args.tag c.ranges.tag c.in_err-snapshot.ensures.large in
    rw (p.1, p.2)
    (means_more (AreLong (IsWrittenSnapshot made.schemas made.previous made.current made.tag c.args.tag)) (AreNotShort (AreFirst (published_of made) made.current c.args.version c.args.tag)) fault
    (first_long (published_of made) made.current c.args.version c.args.tag) means)
