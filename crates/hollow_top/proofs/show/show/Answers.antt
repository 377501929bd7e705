use Rattle.std.proofs.Common.{inr}
use Rattle.hollow_top.specs.Stopping.{IsVerdict, Leaves}
use Rattle.hollow_top.proofs.Shown.{refusal_served, rows_written, rows_cut, rows_front}
use Rattle.hollow_top.proofs.Verdicts.{written_rows, stopped_rows}
use Rattle.hollow_top.proofs.Writes.{failed}
use Rattle.hollow_top.proofs.show.show.Goals as goal

pub returns-in_ok-show_rows-in-Ok-clause-served : goal.returns-in_ok-show_rows-in-Ok-clause-served
returns-in_ok-show_rows-in-Ok-clause-served g c =
    rows_written c.args.version (g.O.Sink.taken c.args.out.now) (g.O.Sink.taken c.show_rows.new.out) c.in-Ok.loaded
    (g.S.BlobStore.seen c.args.store.now).held c.rows.result.schemas c.rows.result.table c.in-Ok.ensures.tells
    (c.rows.ensures.schemas, c.rows.ensures.table, c.in_ok-show_rows-in-Ok.ensures.lines)

pub returns-in_ok-show_rows-in-Ok-clause-verdict : goal.returns-in_ok-show_rows-in-Ok-clause-verdict
returns-in_ok-show_rows-in-Ok-clause-verdict g c =
    written_rows _ (g.O.Sink.taken c.args.out.now) (g.O.Sink.taken c.show_rows.new.out) c.in_ok-show_rows-in-Ok.ensures.lines

pub returns-in_err-show_rows-in-Ok-clause-served : goal.returns-in_err-show_rows-in-Ok-clause-served
returns-in_err-show_rows-in-Ok-clause-served g c =
    rows_cut c.args.version (g.O.Sink.taken c.args.out.now) (g.O.Sink.taken c.show_rows.new.out) c.in-Ok.loaded
    (g.S.BlobStore.seen c.args.store.now).held c.rows.result.schemas c.rows.result.table c.in_err-show_rows-in-Ok.field-0.0
    c.from_residual.result c.in-Ok.ensures.tells
    (c.rows.ensures.schemas, c.rows.ensures.table, c.in_err-show_rows-in-Ok.ensures.lines) c.from_residual.ensures.1

pub returns-in_err-show_rows-in-Ok-clause-verdict : goal.returns-in_err-show_rows-in-Ok-clause-verdict
returns-in_err-show_rows-in-Ok-clause-verdict g c =
    failed c.from_residual.result c.in_err-show_rows-in-Ok.field-0.0
    (Leaves IsVerdict (g.O.Sink.taken c.args.out.now) (g.O.Sink.taken c.show_rows.new.out)) c.from_residual.ensures.1
    (stopped_rows _ (g.O.Sink.taken c.args.out.now) (g.O.Sink.taken c.show_rows.new.out) c.in_err-show_rows-in-Ok.field-0.0 c.in_err-show_rows-in-Ok.ensures.lines)

pub returns-in_err-show_rows-in-Ok-clause-stopped : goal.returns-in_err-show_rows-in-Ok-clause-stopped
returns-in_err-show_rows-in-Ok-clause-stopped g c = λ memory.
    inr (rows_front c.args.version (g.O.Sink.taken c.args.out.now) (g.O.Sink.taken c.show_rows.new.out) c.in-Ok.loaded
    (g.S.BlobStore.seen c.args.store.now).held c.rows.result.schemas c.rows.result.table c.in_err-show_rows-in-Ok.field-0.0
    c.from_residual.result c.in-Ok.ensures.tells
    (c.rows.ensures.schemas, c.rows.ensures.table, c.in_err-show_rows-in-Ok.ensures.lines) c.from_residual.ensures.1 memory)

pub returns-in_ok-blob_refusal-in-Err-clause-served : goal.returns-in_ok-blob_refusal-in-Err-clause-served
returns-in_ok-blob_refusal-in-Err-clause-served g c =
    refusal_served c.args.version (g.O.Sink.taken c.args.out.now) (g.O.Sink.taken c.write_reply.new.out) (g.S.BlobStore.seen c.args.store.now).held c.in-Err.fault
    c.in_ok-blob_refusal-in-Err.field-0 c.blob_refusal.result c.write_reply.result c.in-Err.ensures.tells c.blob_refusal.ensures c.in_ok-blob_refusal-in-Err.was c.write_reply.ensures.written
