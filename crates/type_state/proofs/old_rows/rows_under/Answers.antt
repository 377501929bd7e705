use Rattle.std.proofs.Common.{◌≡◌, ◌+◌, ◌++◌, ◌∷◌, [], ℕ, List, Some, get_or, take, sym, subst}
use Rattle.std.specs.List.{AllZip}
use Rattle.std.specs.FinMap.{get}
use Rattle.std.proofs.lemmas.List.{take_more}
use Rattle.row_model.specs.declared.row.Row.{Row}
use Rattle.type_state.proofs.OldPlaces.{zip_more}
use Rattle.type_state.proofs.old_rows.rows_under.Goals as goal

pub loop-ordinal-preserved : goal.loop-ordinal-preserved
loop-ordinal-preserved c =
    let ordinals = c.args.ordinals.now in
    let index = c.loop-ordinal.ordinal-index in
    let made = c.loop-ordinal.made in
    subst (λ (rows : List Row). AllZip (λ ordinal row. get c.args.rows.now.rows ordinal ≡ Some row) (take (index + 1) ordinals) rows) (sym c.in_ok-push.ensures.ok)
    (subst (λ (os : List ℕ). AllZip (λ ordinal row. get c.args.rows.now.rows ordinal ≡ Some row) os (made ++ c.in_ok-row.field-0 ∷ [])) (sym (take_more ordinals index 0 c.loop-ordinal-test.true))
    (zip_more (λ ordinal row. get c.args.rows.now.rows ordinal ≡ Some row) (take index ordinals) made (get_or ordinals index 0) c.in_ok-row.field-0 c.loop-ordinal.invariant c.in_ok-row.ensures))
