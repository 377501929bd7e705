use Rattle.std.proofs.Common.{◌≡◌, Some, sym, subst}
use Rattle.std.specs.Prelude.{IfOk, IsSome}
use Rattle.std.specs.FinMap.{get}
use Rattle.type_state.specs.PackedRows.{Standing}
use Rattle.type_state.specs.Kept.{half_rows}
use Rattle.type_state.proofs.Halves.{packed_there}
use Rattle.type_state.proofs.packed_rows.PackedRowsTypeRows.row.Goals as goal

pub row-requires-clause-live : goal.row-requires-clause-live
row-requires-clause-live c =
    let live = subst (λ (s : Standing). IsSome (get s.rows c.args.ordinal)) (sym c.self.view_is) c.requires in
    (half_rows c.self.inside.schema.now.shape c.self.inside.half.now c.self.inside.words.now, (packed_there c.self.inside.schema.now.shape c.self.inside.half.now c.self.inside.words.now c.args.ordinal c.self.invariant live).laid, live)

pub returns : goal.returns
returns c =
    let live = subst (λ (s : Standing). IsSome (get s.rows c.args.ordinal)) (sym c.self.view_is) c.requires in
    subst (λ (s : Standing). IfOk c.row.result (λ row. get s.rows c.args.ordinal ≡ Some row)) c.self.view_is
    (c.row.ensures (half_rows c.self.inside.schema.now.shape c.self.inside.half.now c.self.inside.words.now) (packed_there c.self.inside.schema.now.shape c.self.inside.half.now c.self.inside.words.now c.args.ordinal c.self.invariant live).laid)
