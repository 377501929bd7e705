use Rattle.std.proofs.Common.{sym, ap, ◌∙◌}
use Rattle.std.specs.Prelude.{is_some}
use Rattle.std.proofs.lemmas.Bool.{false≢true}
use Rattle.type_state.proofs.Comings.{gone_there}
use Rattle.type_state.proofs.differences.Differences.is_live_at.Goals as goal

pub returns-then-removed-from : goal.returns-then-removed-from
returns-then-removed-from c =
    let empty = gone_there c.args.rows.now.rows c.args.self.now c.as_slice.result.now c.args.ordinal c.args.place c.in-Some.removed.now c.from.result c.requires c.as_slice.ensures c.in-Some.ensures.lookup.0 c.in-Some.ensures.lookup.1 c.if-removed-from.true c.from.ensures in
    (λ t. absurd (false≢true t), λ some. absurd (false≢true (sym (ap is_some empty) ∙ some)))
