use Rattle.std.proofs.Common.{sym, ◌∙◌}
use Rattle.read_engine.proofs.FollowWalks.{ready_walk}
use Rattle.read_engine.proofs.step_index.WalkIndexStepIndex.make_ready.Goals as goal

pub returns-in-Ok-clause-ready : goal.returns-in-Ok-clause-ready
returns-in-Ok-clause-ready g c =
    ready_walk c.args.rows.now.schemas c.args.rows.now.table c.args.self.now c.reserve.new.self c.reserve.result c.reserve.ensures.kept c.reserve.ensures.many c.reserve.ensures.reserved c.reserve.ensures.refused
    (λ e. let both = sym c.in-Ok.is ∙ e in absurd cc)

pub returns-in-Err-Entries-clause-ready : goal.returns-in-Err-Entries-clause-ready
returns-in-Err-Entries-clause-ready g c =
    ready_walk c.args.rows.now.schemas c.args.rows.now.table c.args.self.now c.reserve.new.self c.reserve.result c.reserve.ensures.kept c.reserve.ensures.many c.reserve.ensures.reserved c.reserve.ensures.refused
    (λ e. let both = sym c.in-Err-Entries.is ∙ e in absurd cc)
