use Rattle.std.proofs.Common.{length}
use Rattle.json_values.proofs.key.+kind_behind.Given as goal

abbrev pub decreases-kind_behind : goal.decreases-kind_behind
decreases-kind_behind l = length l.fields.now
