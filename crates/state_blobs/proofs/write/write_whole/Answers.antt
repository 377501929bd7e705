use Rattle.state_blobs.proofs.write.write_whole.Goals as goal

pub write_snapshot-requires-clause-states : goal.write_snapshot-requires-clause-states
write_snapshot-requires-clause-states c =
    rw (c.current-current.ensures.schemas, c.previous-previous.ensures.table, c.current-current.ensures.table)
    (c.can_be_written.ensures.forth c.args.producer.now.schemas c.args.producer.now.previous c.args.producer.now.current c.current-current.ensures.agree c.requires.kept)

pub write_snapshot-requires-clause-plan : goal.write_snapshot-requires-clause-plan
write_snapshot-requires-clause-plan c = rw (c.current-current.ensures.schemas, c.previous-previous.ensures.table, c.current-current.ensures.table) c.requires.plan

pub write_snapshot-requires-clause-sections : goal.write_snapshot-requires-clause-sections
write_snapshot-requires-clause-sections c = rw (c.current-current.ensures.schemas, c.previous-previous.ensures.table, c.current-current.ensures.table) c.requires.sections
