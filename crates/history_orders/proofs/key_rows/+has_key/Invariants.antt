use Rattle.std.proofs.Common.{length}
use Rattle.history_orders.proofs.key_rows.+has_key.Given as goal

abbrev pub decreases-has_key : goal.decreases-has_key
decreases-has_key g l = length l.paths.now
