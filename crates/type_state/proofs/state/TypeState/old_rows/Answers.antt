use Rattle.std.proofs.Common.{◌≡◌, ℕ, List, Some, subst}
use Rattle.std.specs.Prelude.{IfOk}
use Rattle.std.specs.List.{AllZip}
use Rattle.std.specs.FinMap.{get}
use Rattle.type_state.specs.Kept.{half_rows}
use Rattle.type_state.specs.State.{State}
use Rattle.type_state.proofs.state.TypeState.old_rows.Goals as goal

pub returns : goal.returns
returns c =
    subst (λ (s : State). IfOk c.of.result (AllZip (λ ordinal row. get s.current.rows ordinal ≡ Some row) c.args.ordinals.now)) c.self.view_is
    (subst (λ (words : List ℕ). IfOk c.of.result (AllZip (λ ordinal row. get (half_rows c.self.inside.schema.shape c.self.inside.now words) ordinal ≡ Some row) c.args.ordinals.now)) c.current.ensures c.of.ensures)
