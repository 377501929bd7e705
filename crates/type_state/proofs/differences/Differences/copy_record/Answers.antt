use Rattle.std.proofs.Common.{List, ℕ, refl, ap, arith}
use Rattle.std.specs.Prelude.{sum}
use Rattle.schema_model.specs.Parts.{shape_fields}
use Rattle.object_codec.specs.ObjectPlace.{HoldsPlace}
use Rattle.type_rows.specs.Patches.{places_in}
use Rattle.type_rows.proofs.RecordFaults.{to_records}
use Rattle.type_state.proofs.Comings.{patch_holds, patch_small}
use Rattle.type_state.proofs.differences.Differences.copy_record.Goals as goal

pub overflow_cast-size : goal.overflow_cast-size
overflow_cast-size c =
    let few = patch_small c.args.self.now.schema.now.shape c.args.self.now.patch.now c.requires.room.object c.requires.apart.readable in
    omega (arith, few, c.total_width-size.ensures.total, ap (λ (widths : List ℕ). sum widths) c.as_slice-widths.ensures)

pub copy_record-requires-clause-holds : goal.copy_record-requires-clause-holds
copy_record-requires-clause-holds c =
    let shape = c.args.self.now.schema.now.shape in
    let patch = c.args.self.now.patch.now in
    to_records (λ fields widths first areas. HoldsPlace fields widths first areas c.args.there) shape (places_in patch) (shape_fields shape) c.as_slice-widths.result.now c.as_slice.result.now c.as_slice-2.result.now refl c.as_slice-widths.ensures c.as_slice.ensures c.as_slice-2.ensures
    (patch_holds shape patch c.args.there c.requires.room.object c.requires.apart.readable c.requires.apart.come_rise c.requires.apart.come_placed c.requires.inside)
