use Rattle.bucket_codec.proofs.PlaceTests.{holds_of}
use Rattle.bucket_codec.proofs.bucket_rows.BucketRows.row.Goals as goal

pub pairs-requires : goal.pairs-requires
pairs-requires c = let rows = c.args.self.now in holds_of c.args.shape.now rows.widths.now rows.first.now rows.second.now c.args.place c.requires
