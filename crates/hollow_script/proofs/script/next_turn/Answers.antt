use Rattle.hollow_script.proofs.Lining.{carried, fault_given, fault_taken, turn_given}
use Rattle.std.proofs.lemmas.Result.{err_from_is_err_and}
use Rattle.hollow_script.proofs.Replying.{puts_none, reader_writes, sink_writes}
use Rattle.hollow_script.proofs.script.next_turn.Goals as goal

pub returns-in-Some-clause-turns : goal.returns-in-Some-clause-turns
returns-in-Some-clause-turns g c = λ bytes given has.
    (let left = g.I.Source.left c.args.input.now in
    turn_given bytes given c.args.lines.now c.next_held.new.self left left c.in-Some.turn has c.in-Some.ensures.limits (c.in-Some.ensures.tells left))

pub returns-in-Some-clause-ended : goal.returns-in-Some-clause-ended
returns-in-Some-clause-ended g c = c.in-Some.ensures.ended (g.I.Source.left c.args.input.now)

pub returns-in-Some-clause-put : goal.returns-in-Some-clause-put
returns-in-Some-clause-put g c = puts_none (g.O.Sink.taken c.args.out.now) c.args.waiting.now.items

pub returns-clause-turns : goal.returns-clause-turns
returns-clause-turns g c = λ bytes given has.
    (let left = g.I.Source.left c.args.input.now in
    turn_given bytes given c.next_held.new.self c.next.new.self left (g.I.Source.left c.next.new.input) c.in_ok-next.field-0
    (carried bytes given c.args.lines.now c.next_held.new.self left left has c.in_default.ensures.limits (c.in_default.ensures.tells left))
    c.in_ok-next.ensures.limits c.in_ok-next.ensures.tells)

pub returns-in_err-write_waiting-clause-put : goal.returns-in_err-write_waiting-clause-put
returns-in_err-write_waiting-clause-put g c =
    let p = err_from_is_err_and c.from_residual.result c.from_residual.ensures.1 in
    rw p.1 (sink_writes (g.O.Sink.taken c.args.out.now) (g.O.Sink.taken c.write_waiting.new.out) c.args.waiting.now.items c.write_waiting.new.waiting.items p.0 p.2
    c.in_err-write_waiting.ensures.kept c.in_err-write_waiting.ensures.part)

pub returns-in_err-next-clause-put : goal.returns-in_err-next-clause-put
returns-in_err-next-clause-put g c =
    let p = err_from_is_err_and c.from_residual-in_err-next.result c.from_residual-in_err-next.ensures.1 in
    rw p.1 (reader_writes (g.O.Sink.taken c.args.out.now) (g.O.Sink.taken c.write_waiting.new.out) c.args.waiting.now.items c.write_waiting.new.waiting.items p.0 p.2.1 c.in_ok-write_waiting.ensures.put)

pub returns-in_err-write_waiting-clause-none : goal.returns-in_err-write_waiting-clause-none
returns-in_err-write_waiting-clause-none g c = λ bytes given has.
    (let p = err_from_is_err_and c.from_residual.result c.from_residual.ensures.1 in
    let left = g.I.Source.left c.args.input.now in
    rw p.1 (carried bytes given c.args.lines.now c.next_held.new.self left left has c.in_default.ensures.limits (c.in_default.ensures.tells left)))

pub returns-in_err-next-clause-none : goal.returns-in_err-next-clause-none
returns-in_err-next-clause-none g c = λ bytes given has.
    (let p = err_from_is_err_and c.from_residual-in_err-next.result c.from_residual-in_err-next.ensures.1 in
    let left = g.I.Source.left c.args.input.now in
    rw p.1 (fault_given bytes given c.next_held.new.self c.next.new.self left (g.I.Source.left c.next.new.input) c.in_err-next.field-0.0
    (carried bytes given c.args.lines.now c.next_held.new.self left left has c.in_default.ensures.limits (c.in_default.ensures.tells left))
    c.in_err-next.ensures.limits c.in_err-next.ensures.tells))

pub returns-in_err-next-clause-taken : goal.returns-in_err-next-clause-taken
returns-in_err-next-clause-taken g c = λ bytes given has failed.
    (let left = g.I.Source.left c.args.input.now in
    fault_taken bytes given c.next_held.new.self c.next.new.self left (g.I.Source.left c.next.new.input) c.in_err-next.field-0.0
    (carried bytes given c.args.lines.now c.next_held.new.self left left has c.in_default.ensures.limits (c.in_default.ensures.tells left))
    c.in_err-next.ensures.limits c.in_err-next.ensures.tells c.in_err-next.ensures.fails)
