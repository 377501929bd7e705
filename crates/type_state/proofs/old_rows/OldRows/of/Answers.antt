use Rattle.std.proofs.Common.{◌≡◌, Some, subst}
use Rattle.std.specs.List.{AllZip}
use Rattle.std.specs.FinMap.{get}
use Rattle.type_state.specs.PackedRows.{Standing}
use Rattle.type_state.proofs.old_rows.OldRows.of.Goals as goal

pub returns : goal.returns
returns c = subst (λ (s : Standing). AllZip (λ ordinal row. get s.rows ordinal ≡ Some row) c.args.ordinals.now c.in_ok-made.made) c.new-rows.ensures c.in_ok-made.ensures
