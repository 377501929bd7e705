use Rattle.std.proofs.Common.{◌≡◌, arith}
use Rattle.std.specs.Int.{w64}
use mir.Val.{to_z, of_z}
use Rattle.std.proofs.lemmas.Int.{ints, to_z-of_z}
use Rattle.schema_model.specs.Model.{IsModel}
use Rattle.blob_writing.specs.Snapshot.{IsWrittenSnapshot}
use Rattle.blob_writing.proofs.OneSnapshot.{snapshot_once}
use Rattle.blob_writing.proofs.WholeBlobs.{exactly_between, snapshot_is_there}
use Rattle.blob_writing.proofs.snapshot.write_snapshot.Goals as goal

pub returns-clause-exact : goal.returns-clause-exact
returns-clause-exact g c =
    let schemas = g.B.Rows.schemas c.args.new.now in
    let old = g.A.Rows.table c.args.old.now in
    let new = g.B.Rows.table c.args.new.now in
    let from : to_z w64 (of_z w64 c.args.origin) ≡ c.args.origin = grind (arith, ints, to_z-of_z) in
    let to : to_z w64 (of_z w64 c.args.destination) ≡ c.args.destination = grind (arith, ints, to_z-of_z) in
    let model : IsModel schemas = c.shared_model-model.ensures.sound in
    exactly_between (IsWrittenSnapshot schemas old new) (λ blob. blob.items) c.limited_snapshot.result (to_z w64 (of_z w64 c.args.origin)) c.args.origin (to_z w64 (of_z w64 c.args.destination))
    c.args.destination from to
    (snapshot_is_there schemas model old new c.shared_model-model.ensures.before c.shared_model-model.ensures.after c.requires.states c.args.origin c.args.destination)
    (snapshot_once c.one_packing_of_places.ensures schemas model old new c.requires.states c.args.origin c.args.destination) c.limited_snapshot.ensures.written c.limited_snapshot.ensures.short
    c.limited_snapshot.ensures.large
