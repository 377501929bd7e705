use Rattle.std.proofs.Common.{Err, [], ap, length, refl, arith}
use Rattle.hollow_top.proofs.Fronts.{failure_leaves, last_written, last_cut}
use Rattle.hollow_top.proofs.Walks.{types_next, types_stop, types_end}
use Rattle.hollow_top.proofs.Writes.{failed}
use Rattle.hollow_top.specs.HeldLines.{Held}
use Rattle.hollow_top.specs.RowLines.{LeavesLines, rows_in_order}
use Rattle.hollow_top.specs.declared.stop.Stop.TheVariants.{Sink}
use Rattle.hollow_top.proofs.row_lines.show_rows.Goals as goal

pub returns-in_err-show_type-clause-lines : goal.returns-in_err-show_type-clause-lines
returns-in_err-show_type-clause-lines g c =
    let schemas = g.R.Rows.schemas c.args.rows.now in
    let table = g.R.Rows.table c.args.rows.now in
    let stop = c.in_err-show_type.field-0.0 in
    let after : Held = (g.O.Sink.taken c.show_type.new.out, c.show_type.new.pending.items) in
    failed c.from_residual.result stop (LeavesLines (rows_in_order schemas table) (g.O.Sink.taken c.args.out.now) (g.O.Sink.taken c.show_type.new.out)) c.from_residual.ensures.1
    (failure_leaves (rows_in_order schemas table) (g.O.Sink.taken c.args.out.now) after stop
    (types_stop schemas table (g.O.Sink.taken c.args.out.now, []) c.loop-type_index.type_index (g.O.Sink.taken c.loop-type_index.out, c.loop-type_index.lines.items) after (Err stop) stop refl
    c.model.ensures.fits (omega (arith, c.len-type_index-end.ensures.count, ap length c.model.ensures.model)) c.loop-type_index.invariant.0 c.in_err-show_type.ensures.lines))

pub loop-type_index-preserved : goal.loop-type_index-preserved
loop-type_index-preserved g c = (
  types_next (g.R.Rows.schemas c.args.rows.now) (g.R.Rows.table c.args.rows.now) (g.O.Sink.taken c.args.out.now, []) c.loop-type_index.type_index
      (g.O.Sink.taken c.loop-type_index.out, c.loop-type_index.lines.items) (g.O.Sink.taken c.show_type.new.out, c.show_type.new.pending.items) c.model.ensures.fits
      (omega (arith, c.len-type_index-end.ensures.count, ap length c.model.ensures.model))
      c.loop-type_index.invariant.0 c.in_ok-show_type.ensures.lines,
  omega (arith, c.loop-type_index.invariant.1, c.in_ok-show_type.ensures.later),
)

pub returns-in_err-write_all-clause-lines : goal.returns-in_err-write_all-clause-lines
returns-in_err-write_all-clause-lines g c =
    let schemas = g.R.Rows.schemas c.args.rows.now in
    let table = g.R.Rows.table c.args.rows.now in
    let mid : Held = (g.O.Sink.taken c.loop-type_index.out, c.loop-type_index.lines.items) in
    let all = types_end schemas table (g.O.Sink.taken c.args.out.now, []) c.loop-type_index.type_index mid (omega (arith, c.len-type_index-end.ensures.count, ap length c.model.ensures.model)) c.loop-type_index.invariant.0 in
    failed c.from_residual-in_err-write_all.result Sink (LeavesLines (rows_in_order schemas table) (g.O.Sink.taken c.args.out.now) (g.O.Sink.taken c.write_all.new.out))
    c.from_residual-in_err-write_all.ensures.1
    (last_cut (rows_in_order schemas table) (g.O.Sink.taken c.args.out.now) (g.O.Sink.taken c.write_all.new.out) mid all (rw c.as_slice.ensures.value at c.in_err-write_all.ensures.part))

pub returns-clause-lines : goal.returns-clause-lines
returns-clause-lines g c =
    let schemas = g.R.Rows.schemas c.args.rows.now in
    let table = g.R.Rows.table c.args.rows.now in
    let mid : Held = (g.O.Sink.taken c.loop-type_index.out, c.loop-type_index.lines.items) in
    let all = types_end schemas table (g.O.Sink.taken c.args.out.now, []) c.loop-type_index.type_index mid (omega (arith, c.len-type_index-end.ensures.count, ap length c.model.ensures.model)) c.loop-type_index.invariant.0 in
    last_written (rows_in_order schemas table) (g.O.Sink.taken c.args.out.now) (g.O.Sink.taken c.write_all.new.out) mid all (rw c.as_slice.ensures.value at c.in_ok-write_all.ensures.written)
