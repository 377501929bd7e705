use Rattle.std.proofs.Common.{◌≡◌, arith}
use Rattle.std.specs.Int.{w64}
use mir.Val.{to_z, of_z}
use Rattle.std.proofs.lemmas.Int.{ints, to_z-of_z}
use Rattle.blob_writing.specs.Changes.{IsDeltaBetween}
use Rattle.blob_writing.proofs.OneDelta.{delta_once}
use Rattle.blob_writing.proofs.WholeBlobs.{delta_is_there, exactly_between}
use Rattle.blob_writing.proofs.delta.write_delta.Goals as goal

pub returns-clause-exact : goal.returns-clause-exact
returns-clause-exact g c =
    let schemas = g.B.Rows.schemas c.args.new.now in
    let old = g.A.Rows.table c.args.old.now in
    let new = g.B.Rows.table c.args.new.now in
    let from : to_z w64 (of_z w64 c.args.origin) ≡ c.args.origin = grind (arith, ints, to_z-of_z) in
    let to : to_z w64 (of_z w64 c.args.destination) ≡ c.args.destination = grind (arith, ints, to_z-of_z) in
    let sound = c.shared_model-model.ensures.sound in
    exactly_between (IsDeltaBetween schemas old new) (λ blob. blob.items) c.limited_delta.result (to_z w64 (of_z w64 c.args.origin)) c.args.origin (to_z w64 (of_z w64 c.args.destination))
    c.args.destination from to
    (delta_is_there schemas sound old new c.shared_model-model.ensures.before c.shared_model-model.ensures.after c.requires.states c.args.origin c.args.destination)
    (delta_once c.one_packing_of_places.ensures schemas sound old new c.requires.states c.args.origin c.args.destination) c.limited_delta.ensures.written c.limited_delta.ensures.short
    c.limited_delta.ensures.large
