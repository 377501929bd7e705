use Rattle.std.proofs.Common.{drop, ap, ◌∙◌}
use Rattle.hol_io.proofs.Windows.{range_later}
use Rattle.hol_io.proofs.window.Window.let_go.Goals as goal

pub returns-clause-pending : goal.returns-clause-pending
returns-clause-pending c =
    range_later c.self.inside.bytes.items c.self.inside.at c.args.count c.self.inside.end ∙ ap (λ w. drop c.args.count w.pending) c.self.view_is
