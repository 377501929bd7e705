use Rattle.bucket_codec.specs.Buckets.{run_of}
use Rattle.bucket_codec.proofs.PlaceRows.{place_tells}
use Rattle.bucket_codec.proofs.bucket_rows.BucketRows.pairs.Goals as goal

pub returns : goal.returns
returns c =
    let rows = c.args.self.now in
    place_tells rows.widths.now rows.total rows.first.now rows.second.now c.args.place c.size.result (run_of c.in-Some.buckets) c.pairs.result c.in-Some.ensures.0 c.in-Some.ensures.1 c.size.ensures c.pairs.ensures
