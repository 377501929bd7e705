use Rattle.state_blobs.proofs.write.plan_by.Goals as goal

pub of-requires-clause-states : goal.of-requires-clause-states
of-requires-clause-states c =
    rw (c.current-current.ensures.schemas, c.previous-previous.ensures.table, c.current-current.ensures.table)
    (c.can_be_written.ensures.forth c.args.producer.now.schemas c.args.producer.now.previous c.args.producer.now.current c.current-current.ensures.agree c.requires.kept)

pub of-requires-clause-measured : goal.of-requires-clause-measured
of-requires-clause-measured c = rw (c.current-current.ensures.schemas, c.previous-previous.ensures.table, c.current-current.ensures.table) c.requires.measured
