use Rattle.std.proofs.Common.{sym, subst}
use Rattle.std.specs.Prelude.{IsSome}
use Rattle.std.specs.FinMap.{get}
use Rattle.type_state.specs.PackedRows.{Standing}
use Rattle.type_state.proofs.Halves.{is_live, is_there}
use Rattle.type_state.proofs.packed_rows.PackedRowsTypeRows.is_live.Goals as goal

pub returns : goal.returns
returns c = (
  λ t. subst (λ (s : Standing). IsSome (get s.rows c.args.ordinal)) c.self.view_is (is_there c.self.inside.schema.now.shape c.self.inside.half.now c.self.inside.words.now c.args.ordinal (c.contains.ensures.member.0 t)),
  λ some. c.contains.ensures.member.1 (is_live c.self.inside.schema.now.shape c.self.inside.half.now c.self.inside.words.now c.args.ordinal (subst (λ (s : Standing). IsSome (get s.rows c.args.ordinal)) (sym c.self.view_is) some)),
)
