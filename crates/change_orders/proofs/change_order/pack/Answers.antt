use Rattle.change_orders.proofs.change_order.pack.Goals as goal

pub pack-requires-clause-states : goal.pack-requires-clause-states
pack-requires-clause-states c =
    let made = c.args.producer.now in
    rw (c.current-current.ensures.schemas, c.previous-previous.ensures.table, c.current-current.ensures.table)
    (c.can_be_written.ensures.forth made.schemas made.previous made.current c.current-current.ensures.agree (c.is_within.ensures.within c.if-not-is_within.false))
