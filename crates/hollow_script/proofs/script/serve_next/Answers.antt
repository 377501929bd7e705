use Rattle.std.proofs.Common.{rules}
use Rattle.hollow_script.proofs.Answering.{answered_all, answered_next, is_answered_on}
use Rattle.hollow_script.proofs.Halting.{put_stops, reply_stops}
use Rattle.hollow_script.proofs.Replying.{replied_next, replied_on}
use Rattle.std.proofs.lemmas.Result.{err_from_is_err_and}
use Rattle.hollow_script.proofs.script.serve_next.Goals as goal

pub returns-in_err-reply-clause-served : goal.returns-in_err-reply-clause-served
returns-in_err-reply-clause-served g c = λ bytes first before refused is.
    (let p = err_from_is_err_and c.from_residual.result c.from_residual.ensures.1 in
    rw (p.1, p.2) (reply_stops bytes first (g.I.Source.left c.args.input.now) (g.I.Source.left c.next_reply.new.input) (g.S.BlobStore.seen c.args.store.now).held (g.S.BlobStore.seen c.next_reply.new.store).held
    c.args.lines.now c.next_reply.new.lines c.args.keep.now c.next_reply.new.keep before (g.O.Sink.taken c.args.out.now) (g.O.Sink.taken c.next_reply.new.out)
    c.args.waiting.now.items c.next_reply.new.waiting.items refused is c.in_err-reply.field-0.0 (c.in_err-reply.ensures.answers bytes) c.in_err-reply.ensures.quiet c.in_err-reply.ensures.put))

pub returns-in_default-clause-served : goal.returns-in_default-clause-served
returns-in_default-clause-served g c = λ bytes first before refused is.
    (let left = g.I.Source.left c.args.input.now in
    let left' = g.I.Source.left c.next_reply.new.input in
    let held = (g.S.BlobStore.seen c.args.store.now).held in
    let held' = (g.S.BlobStore.seen c.next_reply.new.store).held in
    let mid = g.O.Sink.taken c.args.out.now in
    let after = g.O.Sink.taken c.next_reply.new.out in
    let on = is_answered_on bytes first left left' held held' c.args.lines.now c.next_reply.new.lines c.args.keep.now c.next_reply.new.keep before mid c.args.waiting.now.items refused
    after c.next_reply.new.waiting.items c.in_ok-reply.ensures.put is in
    answered_all bytes first left left' held held' c.args.lines.now c.next_reply.new.lines c.args.keep.now c.next_reply.new.keep before after c.next_reply.new.waiting.items refused
    c.in_ok-reply.field-0 (search rules) on (c.in_ok-reply.ensures.answers bytes))

pub returns-in_err-put_answer-clause-served : goal.returns-in_err-put_answer-clause-served
returns-in_err-put_answer-clause-served g c = λ bytes first before refused is.
    (let p = err_from_is_err_and c.from_residual-in_err-put_answer.result c.from_residual-in_err-put_answer.ensures.1 in
    let left = g.I.Source.left c.args.input.now in
    let left' = g.I.Source.left c.next_reply.new.input in
    let held = (g.S.BlobStore.seen c.args.store.now).held in
    let held' = (g.S.BlobStore.seen c.next_reply.new.store).held in
    let mid = g.O.Sink.taken c.args.out.now in
    let between = g.O.Sink.taken c.next_reply.new.out in
    let on = is_answered_on bytes first left left' held held' c.args.lines.now c.next_reply.new.lines c.args.keep.now c.next_reply.new.keep before mid c.args.waiting.now.items refused
    between c.next_reply.new.waiting.items c.in_ok-reply.ensures.put is in
    rw (p.1, p.2) (put_stops bytes first left left' held held' c.args.lines.now c.next_reply.new.lines c.args.keep.now c.next_reply.new.keep before between (g.O.Sink.taken c.put_answer.new.out)
    c.next_reply.new.waiting.items c.put_answer.new.waiting.items refused on c.in_err-put_answer.field-0.0 c.in-Some.reply c.in_ok-reply.field-0 (search rules)
    (c.in_ok-reply.ensures.answers bytes) c.in_ok-reply.ensures.quiet c.in_err-put_answer.ensures.put))

pub returns-clause-served : goal.returns-clause-served
returns-clause-served g c = λ bytes first before refused is.
    (let left = g.I.Source.left c.args.input.now in
    let left' = g.I.Source.left c.next_reply.new.input in
    let held = (g.S.BlobStore.seen c.args.store.now).held in
    let held' = (g.S.BlobStore.seen c.next_reply.new.store).held in
    let mid = g.O.Sink.taken c.args.out.now in
    let between = g.O.Sink.taken c.next_reply.new.out in
    let on = is_answered_on bytes first left left' held held' c.args.lines.now c.next_reply.new.lines c.args.keep.now c.next_reply.new.keep before mid c.args.waiting.now.items refused
    between c.next_reply.new.waiting.items c.in_ok-reply.ensures.put is in
    answered_next bytes first left left' held held' c.args.lines.now c.next_reply.new.lines c.args.keep.now c.next_reply.new.keep before between c.next_reply.new.waiting.items refused
    (g.O.Sink.taken c.put_answer.new.out) c.put_answer.new.waiting.items c.is_refusal-refused.result c.in-Some.reply c.in_ok-reply.field-0 (search rules) c.is_refusal-refused.ensures on
    (c.in_ok-reply.ensures.answers bytes) c.in_ok-reply.ensures.quiet c.in_ok-put_answer.ensures.put)

pub returns-in_default-clause-replied : goal.returns-in_default-clause-replied
returns-in_default-clause-replied g c = λ before refused is.
    replied_on before (g.O.Sink.taken c.args.out.now) (g.O.Sink.taken c.next_reply.new.out) c.args.waiting.now.items c.next_reply.new.waiting.items refused is c.in_ok-reply.ensures.put

pub returns-clause-replied : goal.returns-clause-replied
returns-clause-replied g c = λ before refused is.
    (let on = replied_on before (g.O.Sink.taken c.args.out.now) (g.O.Sink.taken c.next_reply.new.out) c.args.waiting.now.items c.next_reply.new.waiting.items refused is c.in_ok-reply.ensures.put in
    replied_next before (g.O.Sink.taken c.next_reply.new.out) (g.O.Sink.taken c.put_answer.new.out) c.next_reply.new.waiting.items c.put_answer.new.waiting.items refused
    c.in-Some.reply c.is_refusal-refused.result c.is_refusal-refused.ensures on c.in_ok-put_answer.ensures.put)
