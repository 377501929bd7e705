use Rattle.std.proofs.Common.{[], ◌∷◌}
use Rattle.std.specs.Fmt.{decimal}
use Rattle.std.proofs.lemmas.Result.{err_from_is_err_and}
use Rattle.hol_io.specs.declared.name.BlobName.TheVariants.{Announced}
use Rattle.state_blobs.specs.Puts.{Put}
use Rattle.state_blobs.specs.Blobs.{puts_in}
use Rattle.state_blobs.proofs.Putting.{last_refused, part_of_more}
use Rattle.state_blobs.proofs.puts.publish.Goals as goal

pub returns-in_err-put_blobs-clause-part : goal.returns-in_err-put_blobs-clause-part
returns-in_err-put_blobs-clause-part g c =
    let p = err_from_is_err_and c.from_residual-in_err-put_blobs.result c.from_residual-in_err-put_blobs.ensures.1 in
    let announced : Put = (Announced, decimal c.args.version) in
    rw p.1 (part_of_more (puts_in c.args.blobs.now) (announced ∷ []) (g.S.BlobStore.seen c.args.store.now).held (g.S.BlobStore.seen c.put_blobs.new.store).held c.in_err-put_blobs.ensures.part)

pub returns-clause-part : goal.returns-clause-part
returns-clause-part g c =
    last_refused (puts_in c.args.blobs.now) (Announced, decimal c.args.version) (g.S.BlobStore.seen c.args.store.now).held (g.S.BlobStore.seen c.put_blobs.new.store).held
    (g.S.BlobStore.seen c.put.new.self).held c.put.result c.in_ok-put_blobs.ensures.put c.put.ensures.kept
