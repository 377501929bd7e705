use Rattle.std.proofs.Common.{refl, rules}
use Rattle.snapshot_blob.proofs.Bodies.{item_kind}
use Rattle.snapshot_blob.proofs.Whole.{tells_start, tells_head, tells_body, tells_loaded, exact_held, start_kind, body_kind, kind_of}
use Rattle.snapshot_blob.proofs.loaded.read_snapshot.Goals as goal

pub returns-in_err-cursor-clause-tells : goal.returns-in_err-cursor-clause-tells
returns-in_err-cursor-clause-tells g c =
    tells_start (g.S.BlobStore.seen c.args.store.now).held c.args.name.now c.in_err-cursor.field-0.0 _ (search rules) c.in_err-cursor.ensures.kind c.in_err-cursor.ensures.starts

pub returns-in_err-cursor-clause-exact : goal.returns-in_err-cursor-clause-exact
returns-in_err-cursor-clause-exact g c = exact_held (g.S.BlobStore.seen c.args.store.now).held c.args.name.now _
    (tells_start (g.S.BlobStore.seen c.args.store.now).held c.args.name.now c.in_err-cursor.field-0.0 c.from_residual.result (search rules) c.in_err-cursor.ensures.kind c.in_err-cursor.ensures.starts)

pub returns-in_err-cursor-clause-kind : goal.returns-in_err-cursor-clause-kind
returns-in_err-cursor-clause-kind g c = kind_of c.args.name.now c.in_err-cursor.field-0.0 _ (search rules) (start_kind c.args.name.now c.in_err-cursor.field-0.0 c.in_err-cursor.ensures.kind)

pub returns-in_err-header-clause-tells : goal.returns-in_err-header-clause-tells
returns-in_err-header-clause-tells g c =
    tells_head (g.S.BlobStore.seen c.args.store.now).held c.args.name.now c.in_ok-cursor.cursor c.in_ok-cursor.ensures.starts c.in_ok-cursor.ensures.start c.in_ok-cursor.ensures.kept refl
    c.in_err-header.field-0.0 _ (search rules) c.in_err-header.ensures.reads

pub returns-in_err-header-clause-exact : goal.returns-in_err-header-clause-exact
returns-in_err-header-clause-exact g c = exact_held (g.S.BlobStore.seen c.args.store.now).held c.args.name.now _
    (tells_head (g.S.BlobStore.seen c.args.store.now).held c.args.name.now c.in_ok-cursor.cursor c.in_ok-cursor.ensures.starts c.in_ok-cursor.ensures.start c.in_ok-cursor.ensures.kept refl
    c.in_err-header.field-0.0 c.from_residual-in_err-header.result (search rules) c.in_err-header.ensures.reads)

pub returns-in_err-header-clause-kind : goal.returns-in_err-header-clause-kind
returns-in_err-header-clause-kind g c =
    kind_of c.args.name.now c.in_err-header.field-0.0 _ (search rules) (body_kind c.args.name.now c.in_err-header.field-0.0 (item_kind c.in_err-header.field-0.0 c.in_err-header.ensures.reads.kind))

pub returns-in_err-model-clause-tells : goal.returns-in_err-model-clause-tells
returns-in_err-model-clause-tells g c =
    tells_body (g.S.BlobStore.seen c.args.store.now).held c.args.name.now c.in_ok-cursor.cursor c.in_ok-cursor.ensures.starts c.in_ok-cursor.ensures.start c.in_ok-cursor.ensures.kept refl
    c.in_ok-header.header c.in_err-model.field-0.0 _ (search rules) c.in_ok-header.ensures.reads c.in_err-model.ensures.tells

pub returns-in_err-model-clause-exact : goal.returns-in_err-model-clause-exact
returns-in_err-model-clause-exact g c = exact_held (g.S.BlobStore.seen c.args.store.now).held c.args.name.now _
    (tells_body (g.S.BlobStore.seen c.args.store.now).held c.args.name.now c.in_ok-cursor.cursor c.in_ok-cursor.ensures.starts c.in_ok-cursor.ensures.start c.in_ok-cursor.ensures.kept refl
    c.in_ok-header.header c.in_err-model.field-0.0 c.from_residual-in_err-model.result (search rules) c.in_ok-header.ensures.reads c.in_err-model.ensures.tells)

pub returns-in_err-model-clause-kind : goal.returns-in_err-model-clause-kind
returns-in_err-model-clause-kind g c = kind_of c.args.name.now c.in_err-model.field-0.0 _ (search rules) (body_kind c.args.name.now c.in_err-model.field-0.0 c.in_err-model.ensures.kind)

pub returns-clause-tells : goal.returns-clause-tells
returns-clause-tells g c =
    tells_loaded (g.S.BlobStore.seen c.args.store.now).held c.args.name.now c.in_ok-cursor.cursor c.in_ok-header.header _ c.in_ok-cursor.ensures.starts c.in_ok-cursor.ensures.start
    c.in_ok-cursor.ensures.kept refl c.in_ok-header.ensures.reads c.in_ok-model.ensures.tells

pub returns-clause-exact : goal.returns-clause-exact
returns-clause-exact g c = exact_held (g.S.BlobStore.seen c.args.store.now).held c.args.name.now _
    (tells_loaded (g.S.BlobStore.seen c.args.store.now).held c.args.name.now c.in_ok-cursor.cursor c.in_ok-header.header _ c.in_ok-cursor.ensures.starts c.in_ok-cursor.ensures.start
    c.in_ok-cursor.ensures.kept refl c.in_ok-header.ensures.reads c.in_ok-model.ensures.tells)
