use Rattle.std.proofs.Common.{◌≡◌, ℤ, Some, ap, ◌∙◌, w64, of_z, to_z, arith, rules}
use Rattle.std.proofs.lemmas.Int.{ints, to_z-of_z}
use Rattle.hol_io.specs.declared.name.BlobName.TheVariants.{Snapshot}
use Rattle.snapshot_blob.specs.declared.loaded.Loaded.{Loaded}
use Rattle.read_engine.specs.Taking.{loaded_position}
use Rattle.read_engine.proofs.Loads.{loaded_told, refused_told}
use Rattle.read_engine.proofs.load.load.Goals as goal

pub returns-in_err-header-clause-tells : goal.returns-in_err-header-clause-tells
returns-in_err-header-clause-tells g c = refused_told (Snapshot c.args.version) (g.S.BlobStore.seen c.args.store.now).held c.in_err-header.field-0.0 _ (search rules) c.in_err-header.ensures.tells

pub returns-clause-tells : goal.returns-clause-tells
returns-clause-tells g c =
    let loaded : Loaded = c.in_ok-header.field-0 in
    let same : to_z w64 (of_z w64 loaded.header.destination) ≡ loaded.header.destination = grind (arith, ints, to_z-of_z) in
    loaded_told (Snapshot c.args.version) (g.S.BlobStore.seen c.args.store.now).held loaded c.standing.result
    (c.standing.ensures ∙ ap (λ (tag : ℤ). Some (loaded_position tag (record { model = loaded.model; states = loaded.states }))) same)
    c.in_ok-header.ensures.tells
