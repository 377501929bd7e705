use Rattle.std.proofs.Common.{Result, Err, ap, sym, ◌∙◌, subst}
use Rattle.row_model.specs.declared.packed.PlaceFault.{PlaceFault}
use Rattle.row_model.specs.declared.row.Row.{Row}
use Rattle.type_rows.specs.Loads.{TellsPlace}
use Rattle.type_rows.specs.Patches.{places_in}
use Rattle.type_rows.specs.Rows.{row_in}
use Rattle.type_rows.proofs.Rows.{spelled}
use Rattle.type_state.proofs.differences.Differences.row.Goals as goal

pub unreachable-requires : goal.unreachable-requires
unreachable-requires c =
    let shape = c.args.self.now.schema.now.shape in
    let section = places_in c.args.self.now.patch.now in
    let told = subst (λ (r : Result Row PlaceFault). TellsPlace shape section c.args.place r) (c.in-Err-Bad.is ∙ ap (λ (f : PlaceFault). Err f) c.in-Err-Bad.field-0-is) c.row_at.ensures.tells in
    told (row_in shape section c.args.place) (c.requires.apart.spelled.each c.args.place c.requires.inside)

pub returns-in-Ok : goal.returns-in-Ok
returns-in-Ok c =
    let shape = c.args.self.now.schema.now.shape in
    let section = places_in c.args.self.now.patch.now in
    sym (spelled shape section c.args.place c.in-Ok.row (subst (λ (r : Result Row PlaceFault). TellsPlace shape section c.args.place r) c.in-Ok.is c.row_at.ensures.tells))
