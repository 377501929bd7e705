use Rattle.std.proofs.Common.{refl}
use Rattle.hollow_script.proofs.Asking.{none_halts, order_halts, order_moves, quiet_of}
use Rattle.hollow_script.proofs.Replying.{order_writes}
use Rattle.std.proofs.lemmas.Result.{err_from_is_err_and}
use Rattle.hollow_script.proofs.script.answer_order.Goals as goal

pub returns-in_err-make_way-clause-halts : goal.returns-in_err-make_way-clause-halts
returns-in_err-make_way-clause-halts g c =
    let p = err_from_is_err_and c.from_residual.result c.from_residual.ensures.1 in
    rw p.1 (none_halts (g.S.BlobStore.seen c.args.store.now).held c.args.keep.now c.args.order.now p.0)

pub returns-in_err-make_way-clause-put : goal.returns-in_err-make_way-clause-put
returns-in_err-make_way-clause-put g c =
    let p = err_from_is_err_and c.from_residual.result c.from_residual.ensures.1 in
    rw (p.1, p.2) c.in_err-make_way.ensures.put

pub returns-in_err-make_way-clause-undone : goal.returns-in_err-make_way-clause-undone
returns-in_err-make_way-clause-undone g c = let p = err_from_is_err_and c.from_residual.result c.from_residual.ensures.1 in rw p.1 refl

pub returns-in_err-answer-clause-put : goal.returns-in_err-answer-clause-put
returns-in_err-answer-clause-put g c =
    let p = err_from_is_err_and c.from_residual-in_err-answer.result c.from_residual-in_err-answer.ensures.1 in
    rw (p.1, p.2) (order_writes (g.O.Sink.taken c.args.out.now) (g.O.Sink.taken c.make_way.new.out) c.args.waiting.now.items c.make_way.new.waiting.items c.in_err-answer.field-0.0 c.in_ok-make_way.ensures.put)

pub returns-in_err-answer-clause-quiet : goal.returns-in_err-answer-clause-quiet
returns-in_err-answer-clause-quiet g c = quiet_of c.in_ok-make_way.ensures.none c.in_err-answer.ensures.quiet

pub returns-in_err-answer-clause-halts : goal.returns-in_err-answer-clause-halts
returns-in_err-answer-clause-halts g c =
    let p = err_from_is_err_and c.from_residual-in_err-answer.result c.from_residual-in_err-answer.ensures.1 in
    rw p.1 (order_halts (g.S.BlobStore.seen c.args.store.now).held (g.S.BlobStore.seen c.answer.new.store).held c.args.keep.now c.args.order.now c.in_err-answer.field-0.0 p.0 c.in_err-answer.ensures.halts)

pub returns-in_err-answer-clause-undone : goal.returns-in_err-answer-clause-undone
returns-in_err-answer-clause-undone g c =
    let p = err_from_is_err_and c.from_residual-in_err-answer.result c.from_residual-in_err-answer.ensures.1 in rw p.1 c.in_err-answer.ensures.undone

pub returns-clause-quiet : goal.returns-clause-quiet
returns-clause-quiet g c = quiet_of c.in_ok-make_way.ensures.none c.in_ok-answer.ensures.quiet

pub returns-clause-step : goal.returns-clause-step
returns-clause-step g c =
    order_moves (g.S.BlobStore.seen c.args.store.now).held (g.S.BlobStore.seen c.answer.new.store).held c.args.keep.now c.answer.new.keep c.args.order.now c.in_ok-answer.field-0 c.in_ok-answer.ensures.step
