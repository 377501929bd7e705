use Rattle.std.proofs.Common.{length}
use Rattle.history_orders.proofs.key_columns.+rows_led.Given as goal

abbrev pub decreases-rows_led : goal.decreases-rows_led
decreases-rows_led g l = length l.fields.now
