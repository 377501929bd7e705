use Rattle.std.proofs.Common.{rules}
use Rattle.blob_cursor.proofs.Openings.{item_kind, start_kind, tells_start}
use Rattle.blob_cursor.proofs.opening.opened.Goals as goal

pub returns-in_err-cursor-clause-tells : goal.returns-in_err-cursor-clause-tells
returns-in_err-cursor-clause-tells g c = tells_start (g.S.BlobStore.seen c.args.store.now).held c.args.name.now _ _ (search rules) c.in_err-cursor.ensures.starts

pub returns-in_err-cursor-clause-kind : goal.returns-in_err-cursor-clause-kind
returns-in_err-cursor-clause-kind g c = start_kind c.args.name.now _ _ (search rules) c.in_err-cursor.ensures.kind

pub returns-in_err-header-clause-kind : goal.returns-in_err-header-clause-kind
returns-in_err-header-clause-kind g c = item_kind c.args.name.now _ _ (search rules) c.in_err-header.ensures.reads.kind
