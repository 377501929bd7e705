use Rattle.std.proofs.Common.{ap, arith, length}
use Rattle.std.proofs.lemmas.Result.{err_from_is_err_and}
use Rattle.hol_answers.specs.Reply.{line_of}
use Rattle.hollow_script.proofs.Replying.{reply_fails, reply_put, reply_refused}
use Rattle.hollow_script.proofs.waiting.put_answer.Goals as goal

pub returns-in_err-put_reply-clause-put : goal.returns-in_err-put_reply-clause-put
returns-in_err-put_reply-clause-put g c =
    let p = err_from_is_err_and c.from_residual.result c.from_residual.ensures.1 in
    rw p.1 (reply_refused (line_of c.args.reply) (g.O.Sink.taken c.args.out.now) c.args.waiting.now.items c.put_reply.new.out.items p.0 p.2 c.in_err-put_reply.ensures.err)

pub returns-in_err-write_waiting-clause-put : goal.returns-in_err-write_waiting-clause-put
returns-in_err-write_waiting-clause-put g c =
    let p = err_from_is_err_and c.from_residual-in_err-write_waiting.result c.from_residual-in_err-write_waiting.ensures.1 in
    rw p.1 (reply_fails (line_of c.args.reply) (g.O.Sink.taken c.args.out.now) (g.O.Sink.taken c.write_waiting.new.out) c.args.waiting.now.items c.put_reply.new.out.items c.write_waiting.new.waiting.items p.0 p.2
    c.in_ok-put_reply.ensures.put c.in_err-write_waiting.ensures.kept c.in_err-write_waiting.ensures.part)

pub returns-clause-put : goal.returns-clause-put
returns-clause-put g c =
    reply_put (line_of c.args.reply) (g.O.Sink.taken c.args.out.now) (g.O.Sink.taken c.write_waiting.new.out) c.args.waiting.now.items c.put_reply.new.out.items c.write_waiting.new.waiting.items
    c.in_ok-put_reply.ensures.put c.in_ok-write_waiting.ensures.put

pub returns-clause-few : goal.returns-clause-few
returns-clause-few g c = let none = ap length c.in_ok-write_waiting.ensures.none in omega (arith, none)
