use Rattle.std.proofs.Common.{sym, ◌∙◌}
use Rattle.hol_plan.specs.Ways.{way_at}
use Rattle.hol_plan.proofs.Nearest.{not_away}
use Rattle.hol_plan.proofs.start.start_at.Goals as goal

pub returns-in_err-way : goal.returns-in_err-way
returns-in_err-way c = rw c.from_residual-in_err-way.ensures
    (not_away c.args.versions.now (way_at c.args.ways.now) c.in_ok-place.place c.args.version c.requires c.in_ok-place.ensures (sym c.found.ensures ∙ c.in_err-way.was))
