use Rattle.type_state.proofs.TightPlaces.{gap_holds}
use Rattle.type_state.proofs.tight.is_free.Goals as goal

pub is_gap-requires : goal.is_gap-requires
is_gap-requires c =
    gap_holds c.args.shape.now c.args.section.now c.args.place c.in-Object.field-0 c.in-Object.fields c.as_slice.result.now c.as_slice-in-Object.result.now c.as_slice-in-Object-2.result.now c.in-Object.is c.as_slice.ensures c.as_slice-in-Object.ensures
    c.as_slice-in-Object-2.ensures c.requires.readable c.requires.inside
