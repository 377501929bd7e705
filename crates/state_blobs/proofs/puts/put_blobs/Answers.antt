use Rattle.std.proofs.Common.{List, ◌∷◌, ◌≡◌, ap, ◌∙◌}
use Rattle.std.proofs.lemmas.Result.{err_from_is_err_and}
use Rattle.hol_io.specs.declared.name.BlobName.TheVariants as name
use Rattle.hol_io.specs.Store.{with_content}
use Rattle.state_blobs.specs.Blobs.{whole_in}
use Rattle.state_blobs.specs.Puts.{Put}
use Rattle.state_blobs.proofs.Putting.{one_stands, two_refused}
use Rattle.state_blobs.proofs.puts.put_blobs.Goals as goal

pub returns-in_err-put-in-Later-2-clause-part : goal.returns-in_err-put-in-Later-2-clause-part
returns-in_err-put-in-Later-2-clause-part g c =
    let p = err_from_is_err_and c.from_residual-in_err-put-in-Later-2.result c.from_residual-in_err-put-in-Later-2.ensures.1 in
    let b = c.in-Later in
    let first : Put = (name.Delta b.last b.version, b.delta.items) in
    let second : Put = (name.Reverse b.version b.last, b.reverse.items) in
    let rest = whole_in b.version b.snapshot in
    let held = (g.S.BlobStore.seen c.args.store.now).held in
    let one = (g.S.BlobStore.seen c.put-in-Later.new.self).held in
    let put : one ≡ with_content held first.0 first.1 =
    c.in_ok-put-in-Later.ensures.put ∙ ap (λ (bytes : List _). with_content held first.0 bytes) c.as_slice-in-Later.ensures.value in
    rw (p.1, b.is) (one_stands first (second ∷ rest) held one (g.S.BlobStore.seen c.put-in-Later-2.new.self).held put c.in_err-put-in-Later-2.ensures.kept)

pub returns-in_ok-put-in-Later-2-clause-part : goal.returns-in_ok-put-in-Later-2-clause-part
returns-in_ok-put-in-Later-2-clause-part g c =
    let b = c.in-Later in
    let first : Put = (name.Delta b.last b.version, b.delta.items) in
    let second : Put = (name.Reverse b.version b.last, b.reverse.items) in
    let rest = whole_in b.version b.snapshot in
    let held = (g.S.BlobStore.seen c.args.store.now).held in
    let one = (g.S.BlobStore.seen c.put-in-Later.new.self).held in
    let two = (g.S.BlobStore.seen c.put-in-Later-2.new.self).held in
    let put : one ≡ with_content held first.0 first.1 =
    c.in_ok-put-in-Later.ensures.put ∙ ap (λ (bytes : List _). with_content held first.0 bytes) c.as_slice-in-Later.ensures.value in
    let next : two ≡ with_content one second.0 second.1 =
    c.in_ok-put-in-Later-2.ensures.put ∙ ap (λ (bytes : List _). with_content one second.0 bytes) c.as_slice-in-Later-2.ensures.value in
    rw b.is (two_refused first second rest held one two (g.S.BlobStore.seen c.put_whole.new.store).held c.put_whole.result put next c.put_whole.ensures.kept)
