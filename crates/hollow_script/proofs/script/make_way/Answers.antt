use Rattle.std.proofs.lemmas.Result.{err_from_is_err_and}
use Rattle.hollow_script.proofs.Replying.{sink_writes}
use Rattle.hollow_script.proofs.script.make_way.Goals as goal

pub returns-in_err-write_waiting-clause-put : goal.returns-in_err-write_waiting-clause-put
returns-in_err-write_waiting-clause-put g c =
    let p = err_from_is_err_and c.from_residual.result c.from_residual.ensures.1 in
    rw p.1 (sink_writes (g.O.Sink.taken c.args.out.now) (g.O.Sink.taken c.write_waiting.new.out) c.args.waiting.now.items c.write_waiting.new.waiting.items p.0 p.2
    c.in_err-write_waiting.ensures.kept c.in_err-write_waiting.ensures.part)
