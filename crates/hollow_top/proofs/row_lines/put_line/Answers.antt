use Rattle.std.proofs.Common.{◌≡◌, [], Some, sym, subst, ◌∙◌}
use Rattle.std.proofs.KnownBytes.{Appends-nil}
use Rattle.hollow_top.proofs.Writes.{LeavesRow, failed, row_put, row_not_made, line_waits}
use Rattle.hollow_top.specs.HeldLines.{Held, LeavesText}
use Rattle.hollow_top.specs.RowLines.{IsRowLine}
use Rattle.hollow_top.specs.declared.stop.Stop.TheVariants.{Memory}
use Rattle.hollow_top.proofs.row_lines.put_line.Goals as goal

pub returns-in_err-put_row_line-clause-lines : goal.returns-in_err-put_row_line-clause-lines
returns-in_err-put_row_line-clause-lines g c =
    let schemas = g.R.Rows.schemas c.args.rows.now in
    let table = g.R.Rows.table c.args.rows.now in
    let before : Held = (g.O.Sink.taken c.args.out.now, c.args.pending.now.items) in
    let after : Held = (g.O.Sink.taken c.args.out.now, c.put_row_line.new.out.items) in
    failed c.from_residual.result Memory (LeavesRow schemas table c.args.type_index c.args.ordinal before after) c.from_residual.ensures.1
    (row_not_made schemas table c.args.type_index c.args.ordinal before after c.requires.fits (Appends-nil (g.O.Sink.taken c.args.out.now)))

pub returns-clause-lines : goal.returns-clause-lines
returns-clause-lines g c =
    let schemas = g.R.Rows.schemas c.args.rows.now in
    let table = g.R.Rows.table c.args.rows.now in
    let ordinal = c.args.ordinal in
    let taken = g.O.Sink.taken c.args.out.now in
    let before : Held = (taken, c.args.pending.now.items) in
    let after : Held = (g.O.Sink.taken c.write_many.new.out, c.write_many.new.pending.items) in
    let r = c.write_many.result in
    row_put schemas table c.args.type_index ordinal before after r (λ schema row at live.
    let put = c.in_ok-put_row_line.ensures.put row live in
    let both : Some c.args.of_type.now.form.schema.now ≡ Some schema = sym c.requires.lines.schema ∙ at in
    let same : c.args.of_type.now.form.schema.now ≡ schema = cc in (
      put.0,
      subst (λ s. IsRowLine (s, (ordinal, row)) put.0) same put.1,
      line_waits put.0 taken c.args.pending.now.items after r (subst (λ bytes. LeavesText [] (taken, bytes) after r) put.2 c.write_many.ensures.lines),
    ))
