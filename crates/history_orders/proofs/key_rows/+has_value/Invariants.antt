use Rattle.std.proofs.Common.{length}
use Rattle.history_orders.proofs.key_rows.+has_value.Given as goal

abbrev pub decreases-has_value : goal.decreases-has_value
decreases-has_value g l = length l.fields.now
