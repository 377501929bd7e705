use Rattle.bucket_codec.proofs.PlaceTests.{held_before}
use Rattle.bucket_codec.proofs.bucket_rows.BucketRows.start.Goals as goal

pub end-requires : goal.end-requires
end-requires c = let rows = c.args.self.now in held_before rows.widths.now rows.first.now rows.second.now c.args.place c.if-place-eq0.false c.requires
