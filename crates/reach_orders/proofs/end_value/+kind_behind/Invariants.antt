use Rattle.std.proofs.Common.{length}
use Rattle.reach_orders.proofs.end_value.+kind_behind.Given as goal

abbrev pub decreases-kind_behind : goal.decreases-kind_behind
decreases-kind_behind l = length l.parts.now
