use Rattle.std.proofs.Common.{◌≡◌, ℤ, arith, of_z, subst, to_z, w64}
use Rattle.std.proofs.lemmas.Int.{ints, to_z-of_z}
use Rattle.delta_blob.proofs.DeltaTelling.{Tells, told_fails, told_found}
use Rattle.delta_blob.proofs.read.read_delta.Goals as goal

pub returns-clause-found : goal.returns-clause-found
returns-clause-found g c =
    let same : to_z w64 (of_z w64 c.args.current) ≡ c.args.current = grind (arith, ints, to_z-of_z) in
    let held = (g.S.BlobStore.seen c.args.store.now).held in
    told_found c.args.name.now c.args.current c.args.model.now held c.delta_of_blob.result c.delta_of_blob.ensures.model
    (subst (λ (tag : ℤ). Tells c.args.name.now tag c.args.model.now held c.delta_of_blob.result) same c.delta_of_blob.ensures.tells)

pub returns-clause-fails : goal.returns-clause-fails
returns-clause-fails g c =
    let same : to_z w64 (of_z w64 c.args.current) ≡ c.args.current = grind (arith, ints, to_z-of_z) in
    let held = (g.S.BlobStore.seen c.args.store.now).held in
    told_fails c.args.name.now c.args.current c.args.model.now held c.delta_of_blob.result c.delta_of_blob.ensures.model
    (subst (λ (tag : ℤ). Tells c.args.name.now tag c.args.model.now held c.delta_of_blob.result) same c.delta_of_blob.ensures.tells)
