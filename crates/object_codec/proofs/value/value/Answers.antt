use Rattle.std.proofs.Common.{refl, subst}
use Rattle.row_model.specs.Areas.{area_of}
use Rattle.object_codec.specs.ObjectPlace.{part_at}
use Rattle.object_codec.specs.Part.{FailsValue, TellsValue}
use Rattle.object_codec.specs.Parts.{IsRunWithin}
use Rattle.object_codec.proofs.value.value.Goals as goal

pub value_of-requires : goal.value_of-requires
value_of-requires g c = subst (λ bytes. IsRunWithin bytes c.in-Ok.given) c.area-bytes.ensures c.in-Ok.ensures.within

pub returns-in-Ok : goal.returns-in-Ok
returns-in-Ok g c =
    let cell = c.args.cell in
    let area = area_of (g.P.Parts.area_bytes c.args.parts.now) cell.field in
    subst (λ first. TellsValue c.args.kind.now (part_at first cell.size cell.place cell.before cell.width area) c.value_of.result) c.first.ensures
    (c.value_of.ensures (part_at c.first.result.now cell.size cell.place cell.before cell.width area) refl
    (c.in-Ok.ensures.tells cell.place cell.before area refl c.requires.within.record_holds c.area-bytes.ensures))

pub returns-in-Err : goal.returns-in-Err
returns-in-Err g c =
    let cell = c.args.cell in
    let area = area_of (g.P.Parts.area_bytes c.args.parts.now) cell.field in
    subst (λ first. FailsValue c.args.kind.now (part_at first cell.size cell.place cell.before cell.width area) c.in-Err.reason) c.first.ensures
    (c.in-Err.ensures.tells cell.place cell.before area refl c.requires.within.record_holds c.area-bytes.ensures)
