use Rattle.hollow_top.proofs.Serving.{head_serves, show_serves}
use Rattle.hollow_top.proofs.program.serve.Goals as goal

pub returns-in_ok-reply-in-Head-clause-served : goal.returns-in_ok-reply-in-Head-clause-served
returns-in_ok-reply-in-Head-clause-served g c = λ input.
    head_serves input (g.S.BlobStore.seen c.args.store.now).held (g.S.BlobStore.seen c.head.new.store).held c.args.command.now _ c.in_ok-reply-in-Head.reply
    (g.O.Sink.taken c.args.out.now) (g.O.Sink.taken c.write_reply.new.out) c.write_reply.result
    c.head.ensures.kept c.in-Head.is c.in_ok-reply-in-Head.ensures.reply c.write_reply.ensures.written

pub returns-in-Show-clause-served : goal.returns-in-Show-clause-served
returns-in-Show-clause-served g c = λ input.
    show_serves input (g.S.BlobStore.seen c.args.store.now).held (g.S.BlobStore.seen c.show.new.store).held c.args.command.now _
    (g.O.Sink.taken c.args.out.now) (g.O.Sink.taken c.show.new.out) c.show.result
    c.show.ensures.held c.in-Show.is c.show.ensures.served
