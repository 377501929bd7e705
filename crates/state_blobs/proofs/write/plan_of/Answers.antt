use Rattle.state_blobs.proofs.write.plan_of.Goals as goal

pub new-requires-clause-states : goal.new-requires-clause-states
new-requires-clause-states c =
    rw (c.current-current.ensures.schemas, c.previous-previous.ensures.table, c.current-current.ensures.table)
    (c.can_be_written.ensures.forth c.args.producer.now.schemas c.args.producer.now.previous c.args.producer.now.current c.current-current.ensures.agree c.requires.kept)
