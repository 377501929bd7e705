use Rattle.std.proofs.Common.{rules, arith}
use Rattle.type_rows.specs.Outline.{layout_at}
use Rattle.type_state.specs.Differences.{rows_with}
use Rattle.type_state.specs.FirstFaults.{FailsHeld}
use Rattle.type_state.proofs.Layouts.{all_laid, begun, fails_slot, laid_slot}
use Rattle.type_state.proofs.held.lay_out.Goals as goal

pub loop-ordinal-init : goal.loop-ordinal-init
loop-ordinal-init c =
    begun c.args.next.now.differences.schema.now.shape c.args.next.now.outline.widths (rows_with c.args.rows.now.rows c.args.next.now.differences) c.args.ends.now.offsets.items c.args.ends.now.items c.requires.zero c.requires.none c.requires.long

pub returns : goal.returns
returns c =
    all_laid c.args.next.now.differences.schema.now.shape c.args.next.now.outline.widths (rows_with c.args.rows.now.rows c.args.next.now.differences) c.loop-ordinal.ordinal c.loop-ordinal.ends.offsets.items c.loop-ordinal.ends.items c.loop-ordinal.bytes
    c.loop-ordinal.invariant (omega (arith, c.requires.bound, c.loop-ordinal-test.false))

pub returns-in_err-more : goal.returns-in_err-more
returns-in_err-more c =
    let rows = rows_with c.args.rows.now.rows c.args.next.now.differences in
    let told : FailsHeld c.args.next.now.differences.schema.now.shape c.args.next.now.own (layout_at c.args.next.now.outline) rows c.in_err-more.field-0.0 =
    fails_slot c.args.next.now.differences.schema.now.shape c.args.next.now.own (layout_at c.args.next.now.outline) rows c.loop-ordinal.ordinal c.in_ok-slot.slot c.loop-ordinal.ends c.loop-ordinal.bytes c.in_err-more.field-0.0 c.loop-ordinal.invariant c.in_ok-slot.ensures (search rules) in
    search rules

pub loop-ordinal-preserved : goal.loop-ordinal-preserved
loop-ordinal-preserved c =
    laid_slot c.args.next.now.differences.schema.now.shape c.args.next.now.outline.widths (rows_with c.args.rows.now.rows c.args.next.now.differences) c.loop-ordinal.ordinal c.in_ok-slot.slot c.loop-ordinal.ends c.lay_slot.new.ends c.loop-ordinal.bytes c.in_ok-more.more
    c.saturating_add-bytes.result c.loop-ordinal.invariant c.in_ok-slot.ensures (search rules) (omega (arith, c.saturating_add-bytes.ensures))
