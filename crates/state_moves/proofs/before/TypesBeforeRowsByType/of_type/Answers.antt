use Rattle.std.proofs.Common.{◌≡◌, Some, None, sym, subst}
use Rattle.std.specs.Prelude.{slice_get}
use Rattle.row_model.specs.Table.{RowMap, Table}
use Rattle.type_state.specs.Views.{table_of}
use Rattle.state_moves.specs.Halves.{current_halves}
use Rattle.row_model.specs.Before.{FitsPast, rows_before, table_before}
use Rattle.state_moves.proofs.Tables.{before_at, before_off, current_at, current_off, fits_at, part_within}
use Rattle.state_moves.proofs.before.TypesBeforeRowsByType.of_type.Goals as goal

pub part_at-requires : goal.part_at-requires
part_at-requires c = part_within c.self.inside.states.now c.self.inside.past.now c.args.type_index c.in-Some.state.now c.self.invariant c.in-Some.ensures

pub invariant_of-result : goal.invariant_of-result
invariant_of-result c =
    subst (λ (rows : RowMap). FitsPast rows c.part_at.result.now) (sym c.current.ensures)
    (fits_at (table_of (current_halves c.self.inside.states.now)) c.self.inside.past.now c.args.type_index c.in-Some.state.now.current.rows c.part_at.result.now c.self.invariant (current_at c.self.inside.states.now c.args.type_index c.in-Some.state.now c.in-Some.ensures) c.part_at.ensures)

pub returns-in-Some : goal.returns-in-Some
returns-in-Some c =
    let table = table_of (current_halves c.self.inside.states.now) in
    subst (λ (table : Table). slice_get table c.args.type_index ≡ Some (rows_before c.current.result.rows c.part_at.result.now)) c.self.view_is
    (subst (λ (rows : RowMap). slice_get (table_before table c.self.inside.past.now) c.args.type_index ≡ Some (rows_before rows c.part_at.result.now)) (sym c.current.ensures)
    (before_at table c.self.inside.past.now c.args.type_index c.in-Some.state.now.current.rows c.part_at.result.now (current_at c.self.inside.states.now c.args.type_index c.in-Some.state.now c.in-Some.ensures) c.part_at.ensures))

pub returns-in-None : goal.returns-in-None
returns-in-None c = subst (λ (table : Table). slice_get table c.args.type_index ≡ None) c.self.view_is (before_off (table_of (current_halves c.self.inside.states.now)) c.self.inside.past.now c.args.type_index (current_off c.self.inside.states.now c.args.type_index c.in-None.ensures))
