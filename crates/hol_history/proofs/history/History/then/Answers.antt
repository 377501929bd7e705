use Rattle.std.proofs.Common.{Some, ap, sym, subst, ◌∙◌}
use Rattle.hol_history.specs.Steps.{IsPlaceOf}
use Rattle.hol_history.proofs.OldTables.{place_then}
use Rattle.hol_history.proofs.Pushes.{place_tells, place_within}
use Rattle.hol_history.proofs.history.History.then.Goals as goal

pub unwrap-place-requires : goal.unwrap-place-requires
unwrap-place-requires g c = (place_tells c.args.self.now.steps c.args.version c.place_of.result c.place_of.ensures.place).1 c.requires.reached

pub new-requires-clause-place : goal.new-requires-clause-place
new-requires-clause-place g c =
    place_within c.args.self.now.steps c.args.version c.unwrap-place.result (subst (IsPlaceOf c.args.self.now.steps c.args.version) c.unwrap-place.ensures c.place_of.ensures.place)

pub returns-clause-table : goal.returns-clause-table
returns-clause-table g c =
    place_then (g.R.Rows.table c.args.now.now) c.args.self.now.steps c.args.version c.unwrap-place.result (subst (IsPlaceOf c.args.self.now.steps c.args.version) c.unwrap-place.ensures c.place_of.ensures.place)
    ∙ ap Some (sym c.new.ensures.table)
