use Rattle.std.proofs.Common.{rules}
use Rattle.hollow_script.proofs.Asking.{asked_answers, asked_halts, asks_stop}
use Rattle.hollow_script.proofs.Replying.{puts_then, writes_then}
use Rattle.std.proofs.lemmas.Result.{err_from_is_err_and}
use Rattle.hollow_script.proofs.script.next_reply.Goals as goal

pub returns-in_err-asked-clause-answers : goal.returns-in_err-asked-clause-answers
returns-in_err-asked-clause-answers g c = λ bytes given now has told.
    (let p = err_from_is_err_and c.from_residual.result c.from_residual.ensures.1 in
    rw (p.1, p.2) (asks_stop bytes given (g.I.Source.left c.args.input.now) c.args.lines.now (g.I.Source.left c.next_asked.new.input) c.next_asked.new.lines (g.S.BlobStore.seen c.args.store.now).held
    c.args.keep.now now c.in_err-asked.field-0.0 has told (search rules) (c.in_err-asked.ensures.asks bytes given has)))

pub returns-in_err-asked-clause-put : goal.returns-in_err-asked-clause-put
returns-in_err-asked-clause-put g c =
    let p = err_from_is_err_and c.from_residual.result c.from_residual.ensures.1 in
    rw (p.1, p.2) c.in_err-asked.ensures.put

pub returns-in_err-answer_asked-clause-answers : goal.returns-in_err-answer_asked-clause-answers
returns-in_err-answer_asked-clause-answers g c = λ bytes given now has told.
    (let p = err_from_is_err_and c.from_residual-in_err-answer_asked.result c.from_residual-in_err-answer_asked.ensures.1 in
    rw (p.1, p.2) (asked_halts bytes given (g.I.Source.left c.next_asked.new.input) c.next_asked.new.lines (g.S.BlobStore.seen c.args.store.now).held (g.S.BlobStore.seen c.answer_asked.new.store).held
    c.args.keep.now c.answer_asked.new.keep now c.in_ok-asked.field-0 c.in-Some.asked c.in_err-answer_asked.field-0.0 (search rules) told c.in_err-answer_asked.ensures.others (search rules)
    (c.in_ok-asked.ensures.asks bytes given has) c.in_err-answer_asked.ensures.halts c.in_err-answer_asked.ensures.undone))

pub returns-in_err-answer_asked-clause-put : goal.returns-in_err-answer_asked-clause-put
returns-in_err-answer_asked-clause-put g c =
    let p = err_from_is_err_and c.from_residual-in_err-answer_asked.result c.from_residual-in_err-answer_asked.ensures.1 in
    rw (p.1, p.2) (writes_then (g.O.Sink.taken c.args.out.now) (g.O.Sink.taken c.next_asked.new.out) (g.O.Sink.taken c.answer_asked.new.out)
    c.args.waiting.now.items c.next_asked.new.waiting.items c.answer_asked.new.waiting.items c.in_err-answer_asked.field-0.0 c.in_ok-asked.ensures.put c.in_err-answer_asked.ensures.put)

pub returns-clause-answers : goal.returns-clause-answers
returns-clause-answers g c = λ bytes given now has told.
    asked_answers bytes given (g.I.Source.left c.next_asked.new.input) c.next_asked.new.lines (g.S.BlobStore.seen c.args.store.now).held (g.S.BlobStore.seen c.answer_asked.new.store).held
    c.args.keep.now c.answer_asked.new.keep now c.in_ok-asked.field-0 c.in-Some.asked c.in_ok-answer_asked.field-0 (search rules) told
    (c.in_ok-asked.ensures.asks bytes given has) c.in_ok-answer_asked.ensures.step

pub returns-clause-put : goal.returns-clause-put
returns-clause-put g c =
    puts_then (g.O.Sink.taken c.args.out.now) (g.O.Sink.taken c.next_asked.new.out) (g.O.Sink.taken c.answer_asked.new.out)
    c.args.waiting.now.items c.next_asked.new.waiting.items c.answer_asked.new.waiting.items c.in_ok-asked.ensures.put c.in_ok-answer_asked.ensures.put
