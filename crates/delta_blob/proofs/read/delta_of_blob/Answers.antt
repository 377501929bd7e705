use Rattle.std.proofs.Common.{◌≡◌, ◌∙◌, ap, arith, of_z, rules, sym, to_z, w64}
use Rattle.std.proofs.lemmas.Int.{ints, to_z-of_z}
use Rattle.delta_blob.proofs.DeltaTelling.{told_opening, told_origin, told_types}
use Rattle.delta_blob.proofs.read.delta_of_blob.Goals as goal

pub returns-in_err-header-clause-tells : goal.returns-in_err-header-clause-tells
returns-in_err-header-clause-tells g c =
    told_opening c.args.name.now c.args.current c.args.model.now (g.S.BlobStore.seen c.args.store.now).held c.in_err-header.field-0.0 _ (search rules) c.in_err-header.ensures.tells

pub returns-then-header-current-clause-tells : goal.returns-then-header-current-clause-tells
returns-then-header-current-clause-tells g c =
    let origin : to_z w64 (of_z w64 c.in_ok-header.header.origin) ≡ c.in_ok-header.header.origin = grind (arith, ints, to_z-of_z) in
    let current : to_z w64 (of_z w64 c.args.current) ≡ c.args.current = grind (arith, ints, to_z-of_z) in
    told_origin c.args.name.now c.args.current c.args.model.now (g.S.BlobStore.seen c.args.store.now).held c.in_ok-header.header c.in_ok-header.cursor _ _ origin current (λ same. c.if-header-current.true (ap (of_z w64) same)) c.in_ok-header.ensures.tells

pub returns-in_err-parts-clause-tells : goal.returns-in_err-parts-clause-tells
returns-in_err-parts-clause-tells g c =
    let origin : to_z w64 (of_z w64 c.in_ok-header.header.origin) ≡ c.in_ok-header.header.origin = grind (arith, ints, to_z-of_z) in
    let current : to_z w64 (of_z w64 c.args.current) ≡ c.args.current = grind (arith, ints, to_z-of_z) in
    told_types c.args.name.now c.args.current c.args.model.now (g.S.BlobStore.seen c.args.store.now).held c.in_ok-header.header c.in_ok-header.cursor c.in_err-parts.field-0.0 _ _ (search rules) (sym origin ∙ ap (to_z w64) c.if-header-current.false ∙ current) (search rules)
    c.in_err-parts.ensures.tells c.in_ok-header.ensures.tells
