use Rattle.delta_blob.proofs.names.check_names.Goals as goal

pub returns-then-branch-clause-once : goal.returns-then-branch-clause-once
returns-then-branch-clause-once c = c.in_ok-are_own.ensures.once c.if-branch.true
