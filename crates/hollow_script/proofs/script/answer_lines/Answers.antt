use Rattle.hollow_script.proofs.Answering.{stops_at_start}
use Rattle.hollow_script.proofs.Halting.{kept_answered, kept_stopped}
use Rattle.hollow_script.proofs.Keeping.{nothing_edited, nothing_read}
use Rattle.std.proofs.lemmas.Result.{err_from_is_err_and}
use Rattle.hollow_script.proofs.script.answer_lines.Goals as goal

pub returns-in_err-lines-clause-reading : goal.returns-in_err-lines-clause-reading
returns-in_err-lines-clause-reading g c = nothing_read c.args.keep.now c.requires.fresh

pub returns-in_err-lines-clause-edits : goal.returns-in_err-lines-clause-edits
returns-in_err-lines-clause-edits g c = nothing_edited c.args.keep.now c.requires.fresh

pub returns-in_err-lines-clause-stops : goal.returns-in_err-lines-clause-stops
returns-in_err-lines-clause-stops g c =
    let p = err_from_is_err_and c.from_residual.result c.from_residual.ensures.1 in
    rw (p.1, p.2) (stops_at_start (g.I.Source.left c.args.input.now) (g.S.BlobStore.seen c.args.store.now).held c.args.keep.now (g.O.Sink.taken c.args.out.now) c.args.waiting.now.items c.requires.fresh c.requires.none_waits)

pub returns-clause-answered : goal.returns-clause-answered
returns-clause-answered g c =
    kept_answered (g.I.Source.left c.args.input.now) (g.S.BlobStore.seen c.args.store.now).held (g.I.Source.left c.answer_each-answered.new.input) (g.S.BlobStore.seen c.answer_each-answered.new.store).held c.answer_each-answered.new.keep c.answer_each-answered.new.lines
    (g.O.Sink.taken c.args.out.now) (g.O.Sink.taken c.answer_each-answered.new.out) c.answer_each-answered.new.waiting.items c.answer_each-answered.result c.answer_each-answered.ensures.answered

pub returns-clause-stops : goal.returns-clause-stops
returns-clause-stops g c =
    kept_stopped (g.I.Source.left c.args.input.now) (g.S.BlobStore.seen c.args.store.now).held (g.I.Source.left c.answer_each-answered.new.input) (g.S.BlobStore.seen c.answer_each-answered.new.store).held c.answer_each-answered.new.keep c.answer_each-answered.new.lines
    (g.O.Sink.taken c.args.out.now) (g.O.Sink.taken c.answer_each-answered.new.out) c.answer_each-answered.new.waiting.items c.answer_each-answered.result c.answer_each-answered.ensures.stops
