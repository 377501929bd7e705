-- What is kept of a consumer behind an order that does not move it.
use Rattle.std.specs.Prelude.{◌≡◌, true, Result, Ok, Err}
use Rattle.hol_orders.specs.declared.order_stop.OrderStop.{OrderStop}
use Rattle.hol_orders.specs.declared.order_stop.OrderStop.TheVariants.{Store}
use Rattle.hol_answers.specs.declared.reply.Reply.{Reply}
use Rattle.hol_answers.specs.Reply.{is_refusal}
use Rattle.hollow_machine.specs.Kept.{Reader}

-- Where an order is refused, or stops for the store, what is kept of the consumer is as before.
abbrev pub Unmoved : Reader → Reader → Result Reply OrderStop → Type 0
Unmoved before after (Ok reply) = is_refusal reply ≡ true → after ≡ before
Unmoved before after (Err stop) = stop ≡ Store → after ≡ before
