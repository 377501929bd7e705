use Rattle.std.proofs.Common.{List, ℕ, ap, refl, rules}
use Rattle.type_rows.specs.Layout.{Layout}
use Rattle.type_rows.specs.Loads.{RefusesLoad}
use Rattle.type_state.proofs.SectionHalves.{can_lay, refused}
use Rattle.type_state.proofs.loading.half_of_section.Goals as goal

pub returns-in_err-items-clause-tells : goal.returns-in_err-items-clause-tells
returns-in_err-items-clause-tells c =
    let told : RefusesLoad c.args.schema.now.shape c.args.section.now c.in_err-items.field-0.0 = refused c.args.schema.now.shape c.args.section.now c.in_err-items.field-0.0 c.in_err-items.ensures.tells in
    search rules

pub returns-clause-tells : goal.returns-clause-tells
returns-clause-tells c =
    let shape = c.args.schema.now.shape in
    let section = c.args.section.now in
    let told = c.in_ok-items.ensures.tells in
    let laid : List ℕ → Layout = λ widths. record { max = section.max; widths = widths } in
    let layout = ap laid c.in_ok-copy.ensures in
    (told.0, told.1, can_lay shape section _ c.in_ok-items.field-0 told.0 c.requires told.1 layout c.in_ok-live.ensures refl refl told.2 c.in_ok-items.ensures.long, layout)
