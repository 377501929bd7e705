use Rattle.std.proofs.Common.{◌≡◌, ℕ, List, Some, arith, subst, sym, ◌∙◌}
use Rattle.std.specs.Prelude.{All, slice_get, ◌↔◌}
use Rattle.schema_model.specs.declared.schema.Schema.{Schema}
use Rattle.closed_rows.specs.Dangling.{IsClosedAt}
use Rattle.state_moves.specs.Closing.{IsTypeClosed, NamesKept}
use Rattle.state_moves.proofs.Closed.{came_closed, searched_closed, tells_same}
use Rattle.state_moves.proofs.Tables.{past_length}
use Rattle.state_moves.proofs.closing.is_type_closed.Goals as goal

pub part_at-requires : goal.part_at-requires
part_at-requires c = omega (arith, c.requires.type_there, past_length c.args.rows.now.table c.args.past.now c.requires.fits, c.model-model.ensures.fits.types)

pub returns-then-names_kept : goal.returns-then-names_kept
returns-then-names_kept c =
    let there = subst (λ (schemas : List Schema). slice_get schemas c.args.type_index ≡ Some c.schema.result.now) c.model-model.ensures.model c.schema.ensures.value in
    let kept = subst (λ (schemas : List Schema). NamesKept schemas c.args.past.now c.schema.result.now.shape) c.model-model.ensures.model (c.names_kept.ensures.0 c.if-names_kept.true) in
    let same = came_closed c.args.rows.now.schemas c.args.rows.now.table c.args.past.now c.requires.fits c.requires.closed c.args.type_index c.schema.result.now c.part_at.result.now there c.part_at.ensures kept in
    tells_same (All (IsClosedAt c.args.rows.now.schemas c.args.rows.now.table c.args.type_index) c.as_slice-came.result.now) (IsTypeClosed c.args.rows.now.schemas c.args.rows.now.table c.args.type_index) c.are_closed.result
    (subst (λ (came : List ℕ). All (IsClosedAt c.args.rows.now.schemas c.args.rows.now.table c.args.type_index) came ↔ IsTypeClosed c.args.rows.now.schemas c.args.rows.now.table c.args.type_index) (sym (c.as_slice-came.ensures ∙ c.came.ensures)) same)
    c.are_closed.ensures

pub returns-in_ok-dangling_in : goal.returns-in_ok-dangling_in
returns-in_ok-dangling_in c = searched_closed c.args.rows.now.schemas c.args.rows.now.table c.args.type_index c.in_ok-dangling_in.field-0 c.is_none.result c.in_ok-dangling_in.ensures c.is_none.ensures
