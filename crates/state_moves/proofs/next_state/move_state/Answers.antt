use Rattle.std.proofs.Common.{◌∙◌, Bool, List, ap, subst, sym}
use Rattle.std.specs.List.{AllZip}
use Rattle.schema_model.specs.declared.schema.Schema.{Schema}
use Rattle.row_model.specs.Table.{IsClosed, Table}
use Rattle.type_state.specs.Views.{table_of}
use Rattle.blob_faults.specs.Judge.{Blames}
use Rattle.state_moves.specs.Halves.{current_halves}
use Rattle.state_moves.specs.Judged.{IsFreeMove, state_moved}
use Rattle.state_moves.specs.Moving.{AreComing, coming_halves}
use Rattle.row_model.specs.Before.{FitsPast, PastPart, table_before}
use Rattle.state_moves.proofs.MovedParts.{all_fitting, all_pass, comes, moves_parts, part_at_fault, row_at_fault, was_closed, whole_readable}
use Rattle.state_moves.proofs.Moves.{fault_exit}
use Rattle.state_moves.proofs.next_state.move_state.Goals as goal

pub move_types-requires-clause-readable : goal.move_types-requires-clause-readable
move_types-requires-clause-readable c = whole_readable c.args.states.now c.args.model.now c.args.parts.now c.requires.named c.requires.whole

pub returns-in_err-moved-clause-blamed : goal.returns-in_err-moved-clause-blamed
returns-in_err-moved-clause-blamed c =
    fault_exit (Blames (state_moved c.args.model.now c.args.parts.now c.args.size (table_of (current_halves c.args.states.now))) IsFreeMove) c.from_residual.result c.in_err-moved.field-0.0 c.from_residual.ensures.1
    (part_at_fault c.args.model.now c.args.parts.now c.args.size c.args.states.now c.in_err-moved.field-0.0 c.requires.named c.in_err-moved.ensures.blamed)

pub coming_of-requires : goal.coming_of-requires
coming_of-requires c =
    subst (AreComing c.args.model.now c.move_types.new.states) (sym c.as_slice.ensures)
    (comes c.moved_rows_fit.ensures.fits c.moved_rows_fit.ensures.ranges c.args.model.now c.args.parts.now c.args.states.now c.move_types.new.states c.in_ok-moved.moved.named c.in_ok-moved.moved.past c.in_ok-moved.ensures.moved
    c.in_ok-moved.ensures.stays c.requires.named c.requires.fits)

pub check_closed-requires-clause-fits : goal.check_closed-requires-clause-fits
check_closed-requires-clause-fits c =
    let coming = c.coming_of.ensures.table ∙ ap (λ (named : List Bool). table_of (coming_halves c.move_types.new.states named)) c.as_slice.ensures in
    subst (λ (table : Table). AllZip FitsPast table c.as_slice-2.result.now) (sym coming)
    (subst (λ (past : List PastPart). AllZip FitsPast (table_of (coming_halves c.move_types.new.states c.in_ok-moved.moved.named)) past) (sym c.as_slice-2.ensures)
    (all_fitting c.args.parts.now c.move_types.new.states c.in_ok-moved.moved.named c.in_ok-moved.moved.past c.in_ok-moved.ensures.moved))

pub check_closed-requires-clause-closed : goal.check_closed-requires-clause-closed
check_closed-requires-clause-closed c =
    let coming = c.coming_of.ensures.table ∙ ap (λ (named : List Bool). table_of (coming_halves c.move_types.new.states named)) c.as_slice.ensures in
    subst (λ (schemas : List Schema). IsClosed schemas (table_before c.coming_of.result.table c.as_slice-2.result.now)) (sym c.coming_of.ensures.schemas)
    (subst (λ (table : Table). IsClosed c.args.model.now (table_before table c.as_slice-2.result.now)) (sym coming)
    (subst (λ (past : List PastPart). IsClosed c.args.model.now (table_before (table_of (coming_halves c.move_types.new.states c.in_ok-moved.moved.named)) past)) (sym c.as_slice-2.ensures)
    (was_closed c.args.model.now c.args.parts.now c.args.states.now c.move_types.new.states c.in_ok-moved.moved.named c.in_ok-moved.moved.past c.in_ok-moved.ensures.moved c.in_ok-moved.ensures.stays c.requires.closed)))

pub returns-in_err-check_closed-clause-blamed : goal.returns-in_err-check_closed-clause-blamed
returns-in_err-check_closed-clause-blamed c =
    let coming = c.coming_of.ensures.table ∙ ap (λ (named : List Bool). table_of (coming_halves c.move_types.new.states named)) c.as_slice.ensures in
    fault_exit (Blames (state_moved c.args.model.now c.args.parts.now c.args.size (table_of (current_halves c.args.states.now))) IsFreeMove) c.from_residual-in_err-check_closed.result c.in_err-check_closed.field-0.0
    c.from_residual-in_err-check_closed.ensures.1
    (row_at_fault c.args.model.now c.args.parts.now c.args.size c.args.states.now c.move_types.new.states c.in_ok-moved.moved.named c.coming_of.result c.in_err-check_closed.field-0.0 c.requires.named c.in_ok-moved.ensures.comes c.coming_of.ensures.schemas coming
    c.in_err-check_closed.ensures)

pub returns-clause-moves : goal.returns-clause-moves
returns-clause-moves c =
    let coming = c.coming_of.ensures.table ∙ ap (λ (named : List Bool). table_of (coming_halves c.move_types.new.states named)) c.as_slice.ensures in
    moves_parts c.moved_rows_fit.ensures.fits c.moved_rows_fit.ensures.ranges c.args.model.now c.args.parts.now c.args.states.now c.move_types.new.states c.in_ok-moved.moved.named c.in_ok-moved.moved.past c.in_ok-moved.ensures.moved
    c.in_ok-moved.ensures.stays c.requires.named c.requires.fits
    (subst (λ (table : Table). IsClosed c.args.model.now table) coming (subst (λ (schemas : List Schema). IsClosed schemas c.coming_of.result.table) c.coming_of.ensures.schemas c.in_ok-check_closed.ensures))

pub returns-clause-passes : goal.returns-clause-passes
returns-clause-passes c =
    let coming = c.coming_of.ensures.table ∙ ap (λ (named : List Bool). table_of (coming_halves c.move_types.new.states named)) c.as_slice.ensures in
    all_pass c.args.model.now c.args.parts.now c.args.size c.args.states.now c.move_types.new.states c.in_ok-moved.moved.named c.requires.named c.in_ok-moved.ensures.comes
    (subst (λ (table : Table). IsClosed c.args.model.now table) coming (subst (λ (schemas : List Schema). IsClosed schemas c.coming_of.result.table) c.coming_of.ensures.schemas c.in_ok-check_closed.ensures))
