use Rattle.std.proofs.Common.{length}
use Rattle.packed_half.proofs.bytes.+put_areas.Given as goal

abbrev pub decreases-put_areas : goal.decreases-put_areas
decreases-put_areas l = length l.areas.now
