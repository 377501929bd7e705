use Rattle.state_blobs.proofs.write.write_forth.Goals as goal

pub write_delta-requires-clause-states : goal.write_delta-requires-clause-states
write_delta-requires-clause-states c =
    rw (c.current-current.ensures.schemas, c.previous-previous.ensures.table, c.current-current.ensures.table)
    (c.can_be_written.ensures.forth c.args.producer.now.schemas c.args.producer.now.previous c.args.producer.now.current c.current-current.ensures.agree c.requires.kept)

pub write_delta-requires-clause-plan : goal.write_delta-requires-clause-plan
write_delta-requires-clause-plan c = rw (c.current-current.ensures.schemas, c.previous-previous.ensures.table, c.current-current.ensures.table) c.requires.plan
