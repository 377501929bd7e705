use Rattle.std.proofs.Common.{None, rules}
use Rattle.std.proofs.lemmas.Result.{err_from_is_err_and}
use Rattle.blob_writing.specs.Limits.{MeansLarge}
use Rattle.write_engine.specs.CycleLimit.{TellsTypes}
use Rattle.state_blobs.specs.Published.{published_of}
use Rattle.state_blobs.specs.Puts.{AreBlobs}
use Rattle.state_blobs.specs.Blobs.{AreNotShort}
use Rattle.state_blobs.proofs.Tags.{at_tag}
use Rattle.producer_orders.proofs.Cycling.{not_written}
use Rattle.producer_orders.proofs.cycle_order.limited_blobs.Goals as goal

pub returns-in_err-write_blobs_by : goal.returns-in_err-write_blobs_by
returns-in_err-write_blobs_by c =
    let p = err_from_is_err_and c.from_residual.result c.from_residual.ensures.1 in
    let made = c.args.producer.now in
    let fault = c.in_err-write_blobs_by.field-0.0 in
    let types : TellsTypes made.schemas made.previous made.current None = search rules in
    let means = at_tag (λ t. MeansLarge (AreNotShort (AreBlobs (published_of made) made.current c.args.version t c.args.with_snapshot)) fault) c.args.tag c.ranges.tag c.in_err-write_blobs_by.ensures.large in
    rw (p.1, p.2) (not_written (published_of made) made.current c.args.version c.args.tag c.args.with_snapshot fault types means)
