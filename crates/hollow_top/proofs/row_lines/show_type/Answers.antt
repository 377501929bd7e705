use Rattle.std.proofs.Common.{arith}
use Rattle.hollow_top.proofs.Walks.{type_not_made, type_starts, type_passes, type_takes, type_stops, type_ends}
use Rattle.hollow_top.specs.HeldLines.{Held}
use Rattle.hollow_top.proofs.row_lines.show_type.Goals as goal
use Rattle.hollow_top.proofs.row_lines.show_type.Goals.{then-is_live+in_ok-put_line, else-is_live}

pub returns-in_err-of_type-clause-lines : goal.returns-in_err-of_type-clause-lines
returns-in_err-of_type-clause-lines g c =
    type_not_made (g.R.Rows.schemas c.args.rows.now) (g.R.Rows.table c.args.rows.now) c.args.type_index (g.O.Sink.taken c.args.out.now, c.args.pending.now.items)
    c.from_residual.result c.from_residual.ensures.1 c.requires.fits

pub loop-ordinal-init : goal.loop-ordinal-init
loop-ordinal-init g c =
    (type_starts (g.R.Rows.schemas c.args.rows.now) (g.R.Rows.table c.args.rows.now) c.args.type_index (g.O.Sink.taken c.args.out.now, c.args.pending.now.items), omega arith)

pub returns-in_err-put_line-clause-lines : goal.returns-in_err-put_line-clause-lines
returns-in_err-put_line-clause-lines g c =
    let schemas = g.R.Rows.schemas c.args.rows.now in
    let table = g.R.Rows.table c.args.rows.now in
    let mid : Held = (g.O.Sink.taken c.loop-ordinal.out, c.loop-ordinal.pending.items) in
    let after : Held = (g.O.Sink.taken c.put_line.new.out, c.put_line.new.pending.items) in
    type_stops schemas table c.args.type_index (g.O.Sink.taken c.args.out.now, c.args.pending.now.items) c.loop-ordinal.ordinal mid after c.from_residual-in_err-put_line.result c.in_err-put_line.field-0.0
    c.from_residual-in_err-put_line.ensures.1 c.requires.fits (c.is_live.ensures.0 c.if-is_live.true) c.loop-ordinal.invariant.0 c.in_err-put_line.ensures.lines

pub loop-ordinal-preserved : goal.loop-ordinal-preserved
loop-ordinal-preserved g c =
    let schemas = g.R.Rows.schemas c.args.rows.now in
    let table = g.R.Rows.table c.args.rows.now in
    let before : Held = (g.O.Sink.taken c.args.out.now, c.args.pending.now.items) in
    let mid : Held = (g.O.Sink.taken c.loop-ordinal.out, c.loop-ordinal.pending.items) in
    elim c.if-is_live.branch [
      | then-is_live+in_ok-put_line w ↦ rw (w.out-is, w.pending-is) (
        type_takes schemas table c.args.type_index before c.loop-ordinal.ordinal mid (g.O.Sink.taken w.put_line.new.out, w.put_line.new.pending.items)
            (c.is_live.ensures.0 w.if-is_live.true) c.loop-ordinal.invariant.0 w.in_ok-put_line.ensures.lines,
        omega (arith, c.loop-ordinal.invariant.1, w.in_ok-put_line.ensures.later),
      )
      | else-is_live w ↦ rw (w.out-is, w.pending-is) (
        type_passes schemas table c.args.type_index before c.loop-ordinal.ordinal mid
            (λ live. let is_live = c.is_live.ensures.1 live in let not_live = w.if-is_live.false in cc) c.loop-ordinal.invariant.0,
        c.loop-ordinal.invariant.1,
      )
    ]

pub returns-clause-lines : goal.returns-clause-lines
returns-clause-lines g c =
    type_ends (g.R.Rows.schemas c.args.rows.now) (g.R.Rows.table c.args.rows.now) c.args.type_index (g.O.Sink.taken c.args.out.now, c.args.pending.now.items) c.loop-ordinal.ordinal c.bound-ordinal-end.result
    (g.O.Sink.taken c.loop-ordinal.out, c.loop-ordinal.pending.items) (omega arith) c.bound-ordinal-end.ensures c.loop-ordinal.invariant.0
