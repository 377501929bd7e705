use Rattle.library_example.proofs.Publishing.{closed_tells}
use Rattle.library_example.proofs.publish_state.Goals as goal

pub publish_cycle-requires-clause-over : goal.publish_cycle-requires-clause-over
publish_cycle-requires-clause-over c =
    closed_tells c.add_products.new.producer c.close.new.self c.in_ok-closed.closed.changed c.in_ok-closed.ensures.ok c.in_ok-closed.ensures.over
