use Rattle.std.proofs.Common.{rules}
use Rattle.hol_io.specs.Store.{told}
use Rattle.delta_blob.proofs.PatchTelling.{items_kind, not_store, on_err, on_ok, parts_kind, told_end, told_fails, told_parts, told_stop}
use Rattle.delta_blob.proofs.read.read_patch.Goals as goal

pub returns-in_err-parts-clause-tells : goal.returns-in_err-parts-clause-tells
returns-in_err-parts-clause-tells g c =
    told_stop (told (g.S.BlobStore.seen c.args.store.now).held c.args.cursor.now.name) c.args.cursor.now.at _ c.args.model.now _ _ (search rules) c.in_err-parts.ensures.reads.tells

pub returns-clause-tells : goal.returns-clause-tells
returns-clause-tells g c =
    told_parts (told (g.S.BlobStore.seen c.args.store.now).held c.args.cursor.now.name) c.args.cursor.now.at _ c.args.model.now c.in_ok-parts.parts c.parts_of.result c.in_ok-parts.ensures.reads.tells
    c.parts_of.ensures.found c.parts_of.ensures.blames

pub returns-in_err-parts-clause-fails : goal.returns-in_err-parts-clause-fails
returns-in_err-parts-clause-fails g c =
    told_fails (told (g.S.BlobStore.seen c.args.store.now).held c.args.cursor.now.name) c.args.cursor.now.at c.args.model.now c.from_residual.result (on_err _ c.from_residual.result c.in_err-parts.field-0.0 (search rules)) (returns-in_err-parts-clause-tells g c)

pub returns-clause-fails : goal.returns-clause-fails
returns-clause-fails g c =
    told_fails (told (g.S.BlobStore.seen c.args.store.now).held c.args.cursor.now.name) c.args.cursor.now.at c.args.model.now c.parts_of.result c.parts_of.ensures.model
    (returns-clause-tells g c)

pub returns-clause-model : goal.returns-clause-model
returns-clause-model g c = c.parts_of.ensures.model

pub returns-clause-ends : goal.returns-clause-ends
returns-clause-ends g c = on_ok c.parts_of.result (told_end (told (g.S.BlobStore.seen c.args.store.now).held c.args.cursor.now.name) c.args.cursor.now.at _ c.in_ok-parts.parts c.in_ok-parts.ensures.reads.tells)

pub returns-clause-cause : goal.returns-clause-cause
returns-clause-cause g c = λ is. absurd (not_store c.parts_of.result c.parts_of.ensures.kind is)

pub returns-in_err-parts-clause-kind : goal.returns-in_err-parts-clause-kind
returns-in_err-parts-clause-kind g c = items_kind _ _ (search rules) c.in_err-parts.ensures.reads.kind

pub returns-clause-kind : goal.returns-clause-kind
returns-clause-kind g c = parts_kind c.parts_of.result c.parts_of.ensures.kind
