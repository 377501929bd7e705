use Rattle.std.proofs.lemmas.Result.{err_from_is_err_and}
use Rattle.hollow_script.proofs.Answering.{all_written, told_both}
use Rattle.hollow_script.proofs.Halting.{all_failed, failed_before, fails_behind, written_behind}
use Rattle.hollow_script.proofs.Replying.{all_replied}
use Rattle.hollow_script.specs.Scripted.{AllAnswered, AllWritten, HasStopped}
use Rattle.hollow_script.specs.Stopping.{LeavesStopped}
use Rattle.hollow_script.specs.declared.script_stop.ScriptStop.TheVariants as stop
use Rattle.hollow_script.proofs.script.run_script.Goals as goal

pub returns-in-Ok-clause-written : goal.returns-in-Ok-clause-written
returns-in-Ok-clause-written g c =
    let held = (g.S.BlobStore.seen c.answer_lines.new.store).held in
    let kept = c.answer_lines.new.keep in
    let before = g.O.Sink.taken c.args.out.now in
    let mid = g.O.Sink.taken c.answer_lines.new.out in
    let after = g.O.Sink.taken c.write_waiting.new.out in
    let waiting = c.answer_lines.new.waiting.items in
    told_both (g.I.Source.left c.args.input.now) (g.S.BlobStore.seen c.args.store.now).held
    (λ bytes first. AllAnswered bytes first held kept before mid waiting c.in-Ok.refused) (λ bytes first. AllWritten bytes first held kept before after c.in-Ok.refused) c.in-Ok.ensures.answered
    (λ bytes first is. all_written bytes first held kept before mid after waiting c.in-Ok.refused is c.in_ok-write_waiting-in-Ok.ensures.gained)

pub returns-in-Ok-clause-replied : goal.returns-in-Ok-clause-replied
returns-in-Ok-clause-replied g c =
    let waiting = c.answer_lines.new.waiting.items in
    all_replied (g.O.Sink.taken c.args.out.now) (g.O.Sink.taken c.answer_lines.new.out) (g.O.Sink.taken c.write_waiting.new.out) waiting waiting c.in-Ok.refused
    c.in-Ok.ensures.replied c.in_ok-write_waiting-in-Ok.ensures.gained

-- ---- where it stops

pub returns-in_err-write_waiting-in-Ok-clause-stopped : goal.returns-in_err-write_waiting-in-Ok-clause-stopped
returns-in_err-write_waiting-in-Ok-clause-stopped g c =
    let p = err_from_is_err_and c.from_residual.result c.from_residual.ensures.1 in
    let left = g.I.Source.left c.answer_lines.new.input in
    let held = (g.S.BlobStore.seen c.answer_lines.new.store).held in
    let kept = c.answer_lines.new.keep in
    let before = g.O.Sink.taken c.args.out.now in
    let mid = g.O.Sink.taken c.answer_lines.new.out in
    let after = g.O.Sink.taken c.write_waiting.new.out in
    let waiting = c.answer_lines.new.waiting.items in
    rw (p.1, p.2) (told_both (g.I.Source.left c.args.input.now) (g.S.BlobStore.seen c.args.store.now).held
    (λ bytes first. AllAnswered bytes first held kept before mid waiting c.in-Ok.refused) (λ bytes first. LeavesStopped bytes first left held kept before after stop.Sink) c.in-Ok.ensures.answered
    (λ bytes first is. all_failed bytes first left held kept before mid after waiting kept c.in-Ok.refused is c.in_err-write_waiting-in-Ok.ensures.part))

pub returns-in-Sink-clause-stopped : goal.returns-in-Sink-clause-stopped
returns-in-Sink-clause-stopped g c =
    let left = g.I.Source.left c.answer_lines.new.input in
    let kept = c.answer_lines.new.keep in
    let held = (g.S.BlobStore.seen c.answer_lines.new.store).held in
    let before = g.O.Sink.taken c.args.out.now in
    let after = g.O.Sink.taken c.answer_lines.new.out in
    let waiting = c.answer_lines.new.waiting.items in
    told_both (g.I.Source.left c.args.input.now) (g.S.BlobStore.seen c.args.store.now).held
    (λ bytes first. HasStopped bytes first left kept.lines held kept before after waiting stop.Sink) (λ bytes first. LeavesStopped bytes first left held kept before after stop.Sink) (rw c.in-Sink.is at c.in-Err.ensures.stops)
    (λ bytes first is. failed_before bytes first left kept.lines held kept before after waiting is)

pub returns-in_err-write_waiting-in_default-clause-stopped : goal.returns-in_err-write_waiting-in_default-clause-stopped
returns-in_err-write_waiting-in_default-clause-stopped g c =
    let p = err_from_is_err_and c.from_residual-in_err-write_waiting-in_default.result c.from_residual-in_err-write_waiting-in_default.ensures.1 in
    let left = g.I.Source.left c.answer_lines.new.input in
    let kept = c.answer_lines.new.keep in
    let held = (g.S.BlobStore.seen c.answer_lines.new.store).held in
    let before = g.O.Sink.taken c.args.out.now in
    let mid = g.O.Sink.taken c.answer_lines.new.out in
    let after = g.O.Sink.taken c.write_waiting-in_default.new.out in
    let waiting = c.answer_lines.new.waiting.items in
    rw (p.1, p.2) (told_both (g.I.Source.left c.args.input.now) (g.S.BlobStore.seen c.args.store.now).held
    (λ bytes first. HasStopped bytes first left kept.lines held kept before mid waiting c.in-Err.stop) (λ bytes first. LeavesStopped bytes first left held kept before after stop.Sink) c.in-Err.ensures.stops
    (λ bytes first is. fails_behind bytes first left held kept before mid after waiting kept.lines c.in-Err.stop c.in_default.not-Sink is c.in_err-write_waiting-in_default.ensures.part))

pub returns-clause-stopped : goal.returns-clause-stopped
returns-clause-stopped g c =
    let left = g.I.Source.left c.answer_lines.new.input in
    let kept = c.answer_lines.new.keep in
    let held = (g.S.BlobStore.seen c.answer_lines.new.store).held in
    let before = g.O.Sink.taken c.args.out.now in
    let mid = g.O.Sink.taken c.answer_lines.new.out in
    let after = g.O.Sink.taken c.write_waiting-in_default.new.out in
    let waiting = c.answer_lines.new.waiting.items in
    told_both (g.I.Source.left c.args.input.now) (g.S.BlobStore.seen c.args.store.now).held
    (λ bytes first. HasStopped bytes first left kept.lines held kept before mid waiting c.in-Err.stop) (λ bytes first. LeavesStopped bytes first left held kept before after c.in-Err.stop) c.in-Err.ensures.stops
    (λ bytes first is. written_behind bytes first left held kept before mid after waiting c.in-Err.stop c.in_default.not-Sink is c.in_ok-write_waiting-in_default.ensures.gained)
