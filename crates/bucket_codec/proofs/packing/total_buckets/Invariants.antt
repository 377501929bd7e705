use Rattle.std.proofs.Common.{◌≡◌, take}
use Rattle.bucket_codec.specs.Packed.{bucket_total}
use Rattle.bucket_codec.proofs.packing.total_buckets.Given as goal

abbrev pub invariant-loop-place : goal.invariant-loop-place
invariant-loop-place g l = l.total ≡ bucket_total (take l.place (g.P.PlacedRows.places l.rows))
