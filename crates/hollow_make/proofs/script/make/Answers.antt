use Rattle.hollow_make.proofs.Ends.{make_halts, makes, none_made}
use Rattle.std.proofs.lemmas.Result.{err_from_is_err_and}
use Rattle.hollow_make.proofs.script.make.Goals as goal

pub returns-clause-reply : goal.returns-clause-reply
returns-clause-reply g c =
    makes c.args.seed c.args.rows c.args.cycles (g.S.BlobStore.seen c.args.store.now).held (g.S.BlobStore.seen c.run_script.new.store).held c.in_ok-made.made c.run_script.new.producer c.in_ok-reply.reply
    c.in_ok-made.ensures.start c.in_ok-reply.ensures.reply

pub returns-in_err-made-clause-halts : goal.returns-in_err-made-clause-halts
returns-in_err-made-clause-halts g c =
    let p = err_from_is_err_and c.from_residual.result c.from_residual.ensures.1 in
    rw p.1 (none_made c.args.seed c.args.rows c.args.cycles (g.S.BlobStore.seen c.args.store.now).held)

pub returns-in_err-reply-clause-halts : goal.returns-in_err-reply-clause-halts
returns-in_err-reply-clause-halts g c =
    let p = err_from_is_err_and c.from_residual-in_err-reply.result c.from_residual-in_err-reply.ensures.1 in
    rw p.1 (make_halts c.args.seed c.args.rows c.args.cycles (g.S.BlobStore.seen c.args.store.now).held (g.S.BlobStore.seen c.run_script.new.store).held c.in_ok-made.made
    c.in_ok-made.ensures.start c.in_err-reply.ensures.halts)
