use Rattle.std.proofs.Common.{rules}
use Rattle.hol_io.specs.Store.{told}
use Rattle.snapshot_blob.proofs.Bodies.{told_stop, told_state, exact_body, never_store, state_kind, stop_kind}
use Rattle.snapshot_blob.proofs.body.read_body.Goals as goal

pub returns-in_err-parts-clause-tells : goal.returns-in_err-parts-clause-tells
returns-in_err-parts-clause-tells g c = told_stop (told (g.S.BlobStore.seen c.args.store.now).held c.args.cursor.now.name) c.args.cursor.now.at _ _ _ (search rules) c.in_err-parts.ensures.reads.tells

pub returns-in_err-parts-clause-exact : goal.returns-in_err-parts-clause-exact
returns-in_err-parts-clause-exact g c =
    let content = told (g.S.BlobStore.seen c.args.store.now).held c.args.cursor.now.name in
    exact_body content c.args.cursor.now.at _ (told_stop content c.args.cursor.now.at _ c.in_err-parts.field-0.0 c.from_residual.result (search rules) c.in_err-parts.ensures.reads.tells)

pub returns-in_err-parts-clause-kind : goal.returns-in_err-parts-clause-kind
returns-in_err-parts-clause-kind g c = stop_kind c.in_err-parts.field-0.0 _ (search rules) c.in_err-parts.ensures.reads.kind

pub returns-clause-tells : goal.returns-clause-tells
returns-clause-tells g c =
    told_state (told (g.S.BlobStore.seen c.args.store.now).held c.args.cursor.now.name) c.args.cursor.now.at _ c.in_ok-parts.parts c.state_of.result c.in_ok-parts.ensures.reads.tells
    c.state_of.ensures.accepted c.state_of.ensures.blamed

pub returns-clause-exact : goal.returns-clause-exact
returns-clause-exact g c =
    let content = told (g.S.BlobStore.seen c.args.store.now).held c.args.cursor.now.name in
    exact_body content c.args.cursor.now.at _
    (told_state content c.args.cursor.now.at _ c.in_ok-parts.parts c.state_of.result c.in_ok-parts.ensures.reads.tells c.state_of.ensures.accepted c.state_of.ensures.blamed)

pub returns-clause-kind : goal.returns-clause-kind
returns-clause-kind g c = state_kind c.state_of.result c.state_of.ensures.kind

pub returns-clause-cause : goal.returns-clause-cause
returns-clause-cause g c = λ is. absurd (never_store c.state_of.result c.state_of.ensures.kind is)
