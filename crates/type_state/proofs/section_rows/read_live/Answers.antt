use Rattle.std.proofs.Common.{ℕ, Result, Err, ap, sym, ◌∙◌, subst}
use Rattle.row_model.specs.declared.packed.PlaceFault.{PlaceFault}
use Rattle.row_model.specs.declared.row.Row.{Row}
use Rattle.type_rows.specs.Loads.{Spells, TellsPlace, parts_up_to}
use Rattle.type_rows.specs.WellFormed.{IsReadable}
use Rattle.type_rows.proofs.PlacesUpTo.{tells_place}
use Rattle.type_state.proofs.ReadPlaces.{never_bad, readable_live, row_live}
use Rattle.type_state.proofs.section_rows.read_live.Goals as goal

pub read_place-requires : goal.read_place-requires
read_place-requires c =
    let section = c.args.section.now in
    subst (λ place. IsReadable c.args.schema.now.shape (parts_up_to section.widths 0 section.first section.second section.areas place)) (sym c.from-place.ensures)
    (readable_live c.args.schema.now.shape section c.args.ordinal c.requires.has c.requires.live)

pub unreachable-requires : goal.unreachable-requires
unreachable-requires c =
    let shape = c.args.schema.now.shape in
    let section = c.args.section.now in
    let told = subst (λ (r : Result Row PlaceFault). TellsPlace shape section c.from-place.result r) (c.in-Err-Bad.is ∙ ap (λ (f : PlaceFault). Err f) c.in-Err-Bad.field-0-is)
    (tells_place shape section c.from-place.result c.read_place.result c.read_place.ensures.tells) in
    never_bad shape section c.args.ordinal c.requires.has c.requires.live (λ row spells. told row (subst (λ (n : ℕ). Spells shape section n row) (sym c.from-place.ensures) spells))

pub returns-in-Ok : goal.returns-in-Ok
returns-in-Ok c =
    let shape = c.args.schema.now.shape in
    let section = c.args.section.now in
    let told = subst (λ (r : Result Row PlaceFault). TellsPlace shape section c.from-place.result r) c.in-Ok.is (tells_place shape section c.from-place.result c.read_place.result c.read_place.ensures.tells) in
    row_live shape section c.args.ordinal c.requires.has c.requires.live c.in-Ok.row (subst (λ (n : ℕ). Spells shape section n c.in-Ok.row) c.from-place.ensures told)
