use Rattle.std.proofs.Common.{length}
use Rattle.seen_rows.proofs.seen.+value_named.Given as goal

abbrev pub decreases-value_named : goal.decreases-value_named
decreases-value_named l = length l.fields.now
