use Rattle.std.proofs.Common.{◌≡◌, ◌+◌, drop, ap, ◌∙◌, arith}
use Rattle.std.specs.List.{slice_range}
use Rattle.hol_io.proofs.Windows.{range_later}
use Rattle.hol_io.proofs.window.Window.give.Goals as goal

pub returns-clause-pending : goal.returns-clause-pending
returns-clause-pending c =
    let inside = c.self.inside in
    let place : inside.at + c.args.count + c.args.behind ≡ inside.at + (c.args.count + c.args.behind) = omega arith in
    ap (λ at. slice_range inside.bytes.items at inside.end) place
    ∙ range_later inside.bytes.items inside.at (c.args.count + c.args.behind) inside.end ∙ ap (λ w. drop (c.args.count + c.args.behind) w.pending) c.self.view_is
