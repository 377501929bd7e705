use Rattle.std.proofs.Common.{refl}
use Rattle.hollow_script.proofs.Keeping.{edited_beside, nothing_read}
use Rattle.hollow_script.specs.declared.keep.Keep.{Keep}
use Rattle.hollow_top.proofs.Serving.{made_line, made_part}
use Rattle.hollow_top.proofs.Stopped.{reply_silent, stays_silent, stops_behind}
use Rattle.hollow_top.specs.declared.stop.Stop.TheVariants.{Sink}
use Rattle.std.proofs.lemmas.Result.{err_from_is_err_and}
use Rattle.hollow_top.proofs.program.make_line.Goals as goal

pub returns-clause-made : goal.returns-clause-made
returns-clause-made g c =
    let kept : Keep = record c.args.keep.now { producer = c.make.new.producer } in
    made_line c.args.seed c.args.rows c.args.cycles (g.S.BlobStore.seen c.args.store.now).held (g.S.BlobStore.seen c.make.new.store).held kept c.in_ok-reply.reply
    (g.O.Sink.taken c.args.out.now) (g.O.Sink.taken c.write_reply.new.out) c.write_reply.result c.requires.nothing.consumer c.requires.nothing.version c.requires.nothing.history c.in_ok-reply.ensures.reply c.write_reply.ensures.written

pub returns-clause-part : goal.returns-clause-part
returns-clause-part g c = λ failed.
    let kept : Keep = record c.args.keep.now { producer = c.make.new.producer } in
    made_part c.args.seed c.args.rows c.args.cycles (g.S.BlobStore.seen c.args.store.now).held (g.S.BlobStore.seen c.make.new.store).held kept c.in_ok-reply.reply
    (g.O.Sink.taken c.args.out.now) (g.O.Sink.taken c.write_reply.new.out) c.write_reply.result c.in_ok-reply.ensures.reply c.write_reply.ensures.written failed

pub returns-in_err-reply-clause-stopped : goal.returns-in_err-reply-clause-stopped
returns-in_err-reply-clause-stopped g c =
    let p = err_from_is_err_and c.from_residual.result c.from_residual.ensures.1 in
    rw p.1 c.in_err-reply.ensures.halts

pub returns-clause-stopped : goal.returns-clause-stopped
returns-clause-stopped g c =
    stops_behind c.args.seed c.args.rows c.args.cycles (g.S.BlobStore.seen c.args.store.now).held (g.S.BlobStore.seen c.make.new.store).held c.make.new.producer c.in_ok-reply.reply c.write_reply.result c.in_ok-reply.ensures.reply

pub returns-in_err-reply-clause-silent : goal.returns-in_err-reply-clause-silent
returns-in_err-reply-clause-silent g c = stays_silent c.from_residual.result Sink _ refl

pub returns-clause-silent : goal.returns-clause-silent
returns-clause-silent g c = reply_silent c.write_reply.result _ c.write_reply.ensures.no_store c.write_reply.ensures.silent

pub returns-in_err-reply-clause-reading : goal.returns-in_err-reply-clause-reading
returns-in_err-reply-clause-reading g c = nothing_read c.args.keep.now c.requires.nothing

pub returns-clause-reading : goal.returns-clause-reading
returns-clause-reading g c = nothing_read c.args.keep.now c.requires.nothing

pub returns-in_err-reply-clause-edits : goal.returns-in_err-reply-clause-edits
returns-in_err-reply-clause-edits g c = edited_beside c.args.keep.now c.make.new.producer c.requires.nothing

pub returns-clause-edits : goal.returns-clause-edits
returns-clause-edits g c = edited_beside c.args.keep.now c.make.new.producer c.requires.nothing
