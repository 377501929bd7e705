use Rattle.std.proofs.Common.{subst, sym}
use Rattle.object_codec.specs.ObjectPlace.{IsObject}
use Rattle.type_rows.specs.Patches.{places_in}
use Rattle.type_rows.specs.Rows.{row_in}
use Rattle.type_rows.proofs.PlacesUpTo.{readable_patch}
use Rattle.type_state.proofs.Comings.{patch_holds}
use Rattle.type_state.proofs.ComingRows.{has_runs}
use Rattle.type_state.proofs.coming.add_row.Goals as goal

pub add_object-requires-clause-holds : goal.add_object-requires-clause-holds
add_object-requires-clause-holds c =
    let ds = c.args.differences.now in
    let a = c.requires.apart in
    patch_holds ds.schema.now.shape ds.patch.now c.args.place (subst IsObject (sym c.in-Object.is) tt) a.readable a.come_rise a.come_placed c.requires.inside

pub add_run-requires : goal.add_run-requires
add_run-requires c =
    let ds = c.args.differences.now in
    let a = c.requires.apart in
    record {
      runs = has_runs ds.schema.now.shape c.in_default.not-Object;
      readable = readable_patch ds.schema.now.shape ds.patch.now c.args.place a.readable a.come_rise a.come_placed c.requires.inside;
      spelled = (row_in ds.schema.now.shape (places_in ds.patch.now) c.args.place, a.spelled.each c.args.place c.requires.inside);
    }
