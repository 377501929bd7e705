use Rattle.std.proofs.Common.{rules, ◌≡◌, [], ◌≤◌, ◌∙◌, ap, sym, subst, length}
use Rattle.std.specs.Prelude.{slice_index}
use Rattle.std.specs.FinMap.{values}
use Rattle.schema_model.specs.Parts.{shape_fields}
use Rattle.type_rows.specs.Ends.{AreOfKind}
use Rattle.type_rows.specs.Holds.{HoldsRows}
use Rattle.type_rows.specs.Layout.{width_count}
use Rattle.type_state.specs.FirstFaults.{FailsHeld}
use Rattle.type_state.specs.Moving.{IsHeld}
use Rattle.type_rows.specs.Outline.{layout_at}
use Rattle.type_rows.specs.MoveFault.{FailsMove}
use Rattle.type_rows.proofs.Places.{wide_long, wide_narrow}
use Rattle.type_state.specs.Differences.{rows_with}
use Rattle.type_state.proofs.HeldMoves.{fails_held, moved_by, moved_kinds}
use Rattle.type_state.proofs.Moves.{leads}
use Rattle.type_state.proofs.planning.planned.Goals as goal

pub test_held-requires-clause-widths : goal.test_held-requires-clause-widths
test_held-requires-clause-widths c =
    subst (λ shape. length c.in_ok-plan.plan.outline.widths ≡ width_count shape) (sym c.in_ok-plan.ensures.known.of) (ap (λ layout. length layout.widths) c.in_ok-plan.ensures.layout ∙ wide_long c.args.schema.now.shape c.args.patch.now.max c.args.patch.now.widths c.requires.readable.well.wide)

pub test_held-requires-clause-before : goal.test_held-requires-clause-before
test_held-requires-clause-before c = subst (λ shape. AreOfKind shape c.args.rows.now.rows) (sym c.in_ok-plan.ensures.known.of) c.requires.kinds

pub test_held-requires-clause-held : goal.test_held-requires-clause-held
test_held-requires-clause-held c = subst (λ shape. HoldsRows shape c.args.rows.now.widths [] (values c.args.rows.now.rows)) (sym c.in_ok-plan.ensures.known.of) c.requires.held

pub test_held-requires-clause-narrow : goal.test_held-requires-clause-narrow
test_held-requires-clause-narrow c = λ part.
    subst (λ layout. slice_index layout.widths part ≤ 64) (sym c.in_ok-plan.ensures.layout) (wide_narrow c.args.schema.now.shape c.args.patch.now.max c.args.patch.now.widths c.requires.readable.well.wide part)

pub test_held-requires-clause-kinds : goal.test_held-requires-clause-kinds
test_held-requires-clause-kinds c = subst (λ shape. AreOfKind shape (rows_with c.args.rows.now.rows c.in_ok-plan.plan.differences)) (sym c.in_ok-plan.ensures.known.of) (moved_kinds c.args.schema.now.shape c.args.patch.now c.args.rows.now.rows (rows_with c.args.rows.now.rows c.in_ok-plan.plan.differences) c.requires.readable c.in_ok-plan.ensures.tells c.requires.kinds)

pub returns-in_err-totals-clause-tells : goal.returns-in_err-totals-clause-tells
returns-in_err-totals-clause-tells c =
    let told : FailsMove c.args.schema.now.shape c.args.patch.now c.args.rows.now.rows c.in_err-totals.field-0.0 =
    fails_held c.args.schema.now.shape c.args.patch.now c.args.rows.now.rows (rows_with c.args.rows.now.rows c.in_ok-plan.plan.differences) c.in_ok-plan.plan.own (layout_at c.in_ok-plan.plan.outline) c.in_err-totals.field-0.0 c.in_ok-plan.ensures.own c.in_ok-plan.ensures.layout
    (leads c.args.schema.now.shape c.args.patch.now c.args.rows.now.rows c.in_ok-plan.plan.differences c.in_ok-plan.ensures.known) (subst (λ shape. FailsHeld shape c.in_ok-plan.plan.own (layout_at c.in_ok-plan.plan.outline) (rows_with c.args.rows.now.rows c.in_ok-plan.plan.differences) c.in_err-totals.field-0.0) c.in_ok-plan.ensures.known.of c.in_err-totals.ensures.tells) in
    search rules

pub returns-clause-tells : goal.returns-clause-tells
returns-clause-tells c =
    moved_by c.args.schema.now.shape c.args.patch.now c.args.rows.now.rows (rows_with c.args.rows.now.rows c.in_ok-plan.plan.differences) c.in_ok-plan.plan.own (layout_at c.in_ok-plan.plan.outline) c.in_ok-plan.ensures.own c.in_ok-plan.ensures.layout c.in_ok-plan.ensures.tells
    (subst (λ shape. IsHeld shape c.in_ok-plan.plan.own (layout_at c.in_ok-plan.plan.outline) (rows_with c.args.rows.now.rows c.in_ok-plan.plan.differences)) c.in_ok-plan.ensures.known.of c.in_ok-totals.ensures.tells)

pub returns-clause-kinds : goal.returns-clause-kinds
returns-clause-kinds c = moved_kinds c.args.schema.now.shape c.args.patch.now c.args.rows.now.rows (rows_with c.args.rows.now.rows c.in_ok-plan.plan.differences) c.requires.readable c.in_ok-plan.ensures.tells c.requires.kinds

pub returns-clause-long : goal.returns-clause-long
returns-clause-long c = subst (λ shape. length c.in_ok-totals.totals.ends.offsets.items ≡ length (shape_fields shape)) c.in_ok-plan.ensures.known.of c.in_ok-totals.ensures.long
