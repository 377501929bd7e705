use Rattle.hollow_script.proofs.Asking.{end_asks, line_asks, long_asks, none_asks, order_none_asks, over_asks}
use Rattle.hollow_script.proofs.Replying.{order_writes}
use Rattle.std.proofs.lemmas.Result.{err_from_is_err_and}
use Rattle.hollow_script.proofs.script.next_asked.Goals as goal

pub returns-in_ok-asked_by-in-Line-clause-asks : goal.returns-in_ok-asked_by-in-Line-clause-asks
returns-in_ok-asked_by-in-Line-clause-asks g c = λ bytes given has.
    line_asks bytes given (g.I.Source.left c.next_turn.new.input) c.next_turn.new.lines c.in_ok-next_turn.field-0 c.line.result.now _ c.in-Line.is
    (c.in_ok-next_turn.ensures.turns bytes given has) c.line.ensures c.in_ok-asked_by-in-Line.ensures.asks

pub returns-in-Long-clause-asks : goal.returns-in-Long-clause-asks
returns-in-Long-clause-asks g c = λ bytes given has.
    long_asks bytes given (g.I.Source.left c.next_turn.new.input) c.next_turn.new.lines c.in_ok-next_turn.field-0 c.in-Long.is (c.in_ok-next_turn.ensures.turns bytes given has)

pub returns-in-End-clause-asks : goal.returns-in-End-clause-asks
returns-in-End-clause-asks g c = λ bytes given has.
    end_asks bytes given (g.I.Source.left c.next_turn.new.input) c.next_turn.new.lines c.in_ok-next_turn.field-0 c.in-End.is (c.in_ok-next_turn.ensures.turns bytes given has)

pub returns-in_err-next_turn-clause-asks : goal.returns-in_err-next_turn-clause-asks
returns-in_err-next_turn-clause-asks g c = λ bytes given has.
    (let p = err_from_is_err_and c.from_residual.result c.from_residual.ensures.1 in
    rw (p.1, p.2) (none_asks bytes given (g.I.Source.left c.next_turn.new.input) c.next_turn.new.lines c.in_err-next_turn.field-0.0 c.in_err-next_turn.ensures.others
    (c.in_err-next_turn.ensures.none bytes given has) (c.in_err-next_turn.ensures.taken bytes given has)))

pub returns-in_err-next_turn-clause-put : goal.returns-in_err-next_turn-clause-put
returns-in_err-next_turn-clause-put g c =
    let p = err_from_is_err_and c.from_residual.result c.from_residual.ensures.1 in
    rw (p.1, p.2) c.in_err-next_turn.ensures.put

pub returns-in_err-asked_by-in-Line-clause-asks : goal.returns-in_err-asked_by-in-Line-clause-asks
returns-in_err-asked_by-in-Line-clause-asks g c = λ bytes given has.
    (let p = err_from_is_err_and c.from_residual-in_err-asked_by-in-Line.result c.from_residual-in_err-asked_by-in-Line.ensures.1 in
    rw (p.1, p.2) (order_none_asks bytes given (g.I.Source.left c.next_turn.new.input) c.next_turn.new.lines c.in_ok-next_turn.field-0 c.in-Line.is (c.in_ok-next_turn.ensures.turns bytes given has) c.in_err-asked_by-in-Line.field-0.0))

pub returns-in_err-asked_by-in-Line-clause-put : goal.returns-in_err-asked_by-in-Line-clause-put
returns-in_err-asked_by-in-Line-clause-put g c =
    let p = err_from_is_err_and c.from_residual-in_err-asked_by-in-Line.result c.from_residual-in_err-asked_by-in-Line.ensures.1 in
    rw (p.1, p.2) (order_writes (g.O.Sink.taken c.args.out.now) (g.O.Sink.taken c.next_turn.new.out) c.args.waiting.now.items c.next_turn.new.waiting.items c.in_err-asked_by-in-Line.field-0.0 c.in_ok-next_turn.ensures.put)

pub returns-in-Over-clause-asks : goal.returns-in-Over-clause-asks
returns-in-Over-clause-asks g c = λ bytes given has.
    over_asks bytes given (g.I.Source.left c.next_turn.new.input) c.next_turn.new.lines c.in_ok-next_turn.field-0 c.in-Over.is (c.in_ok-next_turn.ensures.turns bytes given has)
