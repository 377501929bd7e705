use Rattle.std.proofs.Common.{ℕ, Result, Err, ap, sym, ◌∙◌, subst}
use Rattle.row_model.specs.declared.packed.PlaceFault.{PlaceFault}
use Rattle.row_model.specs.declared.row.Row.{Row}
use Rattle.type_rows.specs.Loads.{Spells, TellsPlace}
use Rattle.packed_half.specs.Half.{section_in}
use Rattle.packed_half.specs.LaidOut.{HasRowUnder}
use Rattle.packed_half.proofs.Looking.{never_bad, row_is}
use Rattle.packed_half.proofs.rows.HalfRows.row.Goals as goal

pub read_place-requires-clause-live : goal.read_place-requires-clause-live
read_place-requires-clause-live c =
    subst (HasRowUnder c.args.schema.now.shape c.args.self.now.half.now c.args.self.now.words.now) (sym c.from.ensures) c.requires.live

pub unreachable-requires : goal.unreachable-requires
unreachable-requires c =
    let shape = c.args.schema.now.shape in
    let section = section_in shape c.args.self.now.half.now c.args.self.now.words.now in
    let told = subst (λ (r : Result Row PlaceFault). TellsPlace shape section c.from.result r) (c.in-Err-Bad.is ∙ ap (λ (f : PlaceFault). Err f) c.in-Err-Bad.field-0-is) c.read_place.ensures in
    never_bad shape c.args.self.now.half.now c.args.self.now.words.now c.args.ordinal c.requires.live (λ row spells. told row (subst (λ (n : ℕ). Spells shape section n row) (sym c.from.ensures) spells))

pub returns-in-Ok : goal.returns-in-Ok
returns-in-Ok c =
    let shape = c.args.schema.now.shape in
    let section = section_in shape c.args.self.now.half.now c.args.self.now.words.now in
    row_is shape c.args.self.now.half.now c.args.self.now.words.now c.args.ordinal c.in-Ok.row c.requires.live (subst (λ (n : ℕ). Spells shape section n c.in-Ok.row) c.from.ensures c.in-Ok.ensures)
