use Rattle.std.proofs.Common.{List, ap, ◌∙◌, sym, subst, ◌≡◌}
use Rattle.std.specs.List.{AllZip}
use Rattle.row_model.specs.Table.{IsTableOf}
use Rattle.type_state.specs.State.{State}
use Rattle.type_state.specs.Views.{table_of}
use Rattle.state_moves.specs.Halves.{current_halves}
use Rattle.row_model.specs.Before.{FitsPast, PastPart, table_before}
use Rattle.read_engine.specs.Position.{IsPosition, Position}
use Rattle.read_engine.proofs.Consumers.{each_position, is_position, its_parts, stands_and}
use Rattle.read_engine.proofs.consumer.Consumer.before.Goals as goal

pub before_of-requires-clause-fits : goal.before_of-requires-clause-fits
before_of-requires-clause-fits c =
    subst (λ (states : List State). AllZip FitsPast (table_of (current_halves states)) c.as_slice-past.result.now) (sym c.as_slice-states.ensures)
    (subst (λ (past : List PastPart). AllZip FitsPast (table_of (current_halves c.self.inside.states)) past) (sym c.as_slice-past.ensures)
    (its_parts c.self.inside.tag c.self.inside.model c.self.inside.states c.self.inside.past c.self.inside.indexes c.self.inside.walks c.self.invariant c.args.self.now c.self.view_is IsPosition (AllZip FitsPast (table_of (current_halves c.self.inside.states)) c.self.inside.past)
    (stands_and c.args.self.now IsPosition c.requires (is_position c.self.inside.tag c.self.inside.model c.self.inside.states c.self.inside.past c.self.inside.indexes c.self.inside.walks c.self.invariant c.args.self.now c.self.view_is)) (λ at stands position. stands.fits)))

pub before_of-requires-clause-rows : goal.before_of-requires-clause-rows
before_of-requires-clause-rows c =
    subst (λ (states : List State). IsTableOf c.self.inside.model (table_before (table_of (current_halves states)) c.as_slice-past.result.now)) (sym c.as_slice-states.ensures)
    (subst (λ (past : List PastPart). IsTableOf c.self.inside.model (table_before (table_of (current_halves c.self.inside.states)) past)) (sym c.as_slice-past.ensures)
    (its_parts c.self.inside.tag c.self.inside.model c.self.inside.states c.self.inside.past c.self.inside.indexes c.self.inside.walks c.self.invariant c.args.self.now c.self.view_is IsPosition (IsTableOf c.self.inside.model (table_before (table_of (current_halves c.self.inside.states)) c.self.inside.past))
    (stands_and c.args.self.now IsPosition c.requires (is_position c.self.inside.tag c.self.inside.model c.self.inside.states c.self.inside.past c.self.inside.indexes c.self.inside.walks c.self.invariant c.args.self.now c.self.view_is)) (λ at stands position. stands.position.rows_before)))

pub returns-clause-schemas : goal.returns-clause-schemas
returns-clause-schemas c =
    stands_and c.args.self.now (λ (position : Position). position.schemas ≡ c.before_of.result.schemas) c.requires
    (each_position c.self.inside.tag c.self.inside.model c.self.inside.states c.self.inside.past c.self.inside.indexes c.self.inside.walks c.self.invariant c.args.self.now c.self.view_is (λ (position : Position). position.schemas ≡ c.before_of.result.schemas) (λ at stands. sym c.before_of.ensures.schemas))

pub returns-clause-table : goal.returns-clause-table
returns-clause-table c =
    let is = c.before_of.ensures.table
    ∙ ap (λ (states : List State). table_before (table_of (current_halves states)) c.as_slice-past.result.now) c.as_slice-states.ensures
    ∙ ap (table_before (table_of (current_halves c.self.inside.states))) c.as_slice-past.ensures in
    stands_and c.args.self.now (λ (position : Position). position.before ≡ c.before_of.result.table) c.requires
    (each_position c.self.inside.tag c.self.inside.model c.self.inside.states c.self.inside.past c.self.inside.indexes c.self.inside.walks c.self.invariant c.args.self.now c.self.view_is (λ (position : Position). position.before ≡ c.before_of.result.table) (λ at stands. sym is))

pub returns-clause-position : goal.returns-clause-position
returns-clause-position c = stands_and c.args.self.now IsPosition c.requires (is_position c.self.inside.tag c.self.inside.model c.self.inside.states c.self.inside.past c.self.inside.indexes c.self.inside.walks c.self.invariant c.args.self.now c.self.view_is)
