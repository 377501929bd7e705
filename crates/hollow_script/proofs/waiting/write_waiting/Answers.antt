use Rattle.std.proofs.lemmas.Result.{err_from_is_err_and}
use Rattle.hollow_script.proofs.Replying.{puts_all, slice_fails}
use Rattle.hollow_script.proofs.waiting.write_waiting.Goals as goal

pub returns-in_err-write_all-clause-part : goal.returns-in_err-write_all-clause-part
returns-in_err-write_all-clause-part g c =
    let p = err_from_is_err_and c.from_residual.result c.from_residual.ensures.1 in
    rw p.1 (slice_fails c.args.waiting.now.items c.as_slice.result.now (g.O.Sink.taken c.args.out.now) (g.O.Sink.taken c.write_all.new.out) c.as_slice.ensures.value c.in_err-write_all.ensures.part)

pub returns-clause-put : goal.returns-clause-put
returns-clause-put g c =
    puts_all (g.O.Sink.taken c.args.out.now) (g.O.Sink.taken c.write_all.new.out) c.args.waiting.now.items c.clear.new.self.items c.clear.ensures.items
    (rw c.as_slice.ensures.value at c.in_ok-write_all.ensures.written)

pub returns-clause-gained : goal.returns-clause-gained
returns-clause-gained g c = rw c.as_slice.ensures.value at c.in_ok-write_all.ensures.written
