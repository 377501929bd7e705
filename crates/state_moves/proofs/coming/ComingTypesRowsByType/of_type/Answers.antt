use Rattle.std.proofs.Common.{◌≡◌, Some, None, sym, subst}
use Rattle.std.specs.Prelude.{slice_get}
use Rattle.row_model.specs.Table.{RowMap, Table}
use Rattle.type_state.specs.Views.{table_of}
use Rattle.state_moves.specs.Moving.{coming_halves}
use Rattle.state_moves.proofs.Comings.{coming_at, coming_off, named_within}
use Rattle.state_moves.proofs.coming.ComingTypesRowsByType.of_type.Goals as goal

pub is_named-requires : goal.is_named-requires
is_named-requires c = named_within c.self.inside.states.now c.self.inside.named.now c.args.type_index c.in-Some.state.now c.self.invariant c.in-Some.ensures

pub returns-in-Some : goal.returns-in-Some
returns-in-Some c =
    subst (λ (table : Table). slice_get table c.args.type_index ≡ Some c.coming_rows.result.rows) c.self.view_is
    (subst (λ (rows : RowMap). slice_get (table_of (coming_halves c.self.inside.states.now c.self.inside.named.now)) c.args.type_index ≡ Some rows) (sym c.coming_rows.ensures)
    (coming_at c.self.inside.states.now c.self.inside.named.now c.args.type_index c.in-Some.state.now c.is_named.result c.in-Some.ensures c.is_named.ensures))

pub returns-in-None : goal.returns-in-None
returns-in-None c = subst (λ (table : Table). slice_get table c.args.type_index ≡ None) c.self.view_is (coming_off c.self.inside.states.now c.self.inside.named.now c.args.type_index c.in-None.ensures)
